-- A load that is done gives a table that would pass every check again, and a refused load gives the all-zero table. Assumes nothing.
use Prim.Native.Nat.{ℕ, ◌-◌, ◌^◌, ◌≤◌, ◌<◌}
use native.Mathlib.Decide.{dec_lt}
use native.Mathlib.Omega.{arith}
use mathlib.Core.Bool.{Bool, true, false, not, and-eq-true_iff}
use mathlib.Core.List.{List}
use mathlib.Core.Logic.{◌≢◌, ⊎_elim}
use mathlib.Core.Path.{◌≡◌, refl, sym, ap, ◌∙◌}
use lib.Dec.{eqb}
use lib.ListN.{get_or}
use lib.Pow.{pow_mono}
use borrow.Author.Tests.{leb-true, le-leb, ne_eqb, eq-eqb}
use Rattle.std.proofs.Common.{Option, Some, None}
use Rattle.cardfile.proofs.Done.{records_of, load_done}
use Rattle.cardfile.proofs.Filled.{Checked, checked, filled, slots_length, From, from, all_counted}
use Rattle.cardfile.specs.Format.{ranges_good, value_at, cards_good, filled_of}
use Rattle.cardfile.specs.Format.{refuse_unless, refused_with, cards_of, columns_found, columns_read, header_read, header_of, load_table_of}
use Rattle.cardfile.specs.declared.Header.{Header}
use Rattle.cardfile.specs.LoadedTable.{LoadedTable}
use Rattle.cards.proofs.Below.{all_each}
use Rattle.cards.specs.Table.{table_good, number_good, slots_good, slot_is_new}

module _ (records : List ℕ) (size number slot top n : ℕ) (small : top ≤ 63) (fine : Checked records size number slot top n) where
  -- two cards with one slot are one card
  same_card : (i j : ℕ) → i < n → j < n → value_at records size slot i ≡ value_at records size slot j → i ≡ j
  same_card i j hi hj same = pick (dec_lt i j) (dec_lt j i)
    where
      pick : Dec (i < j) → Dec (j < i) → i ≡ j
      pick (yes less) d = absurd (fine.slot_once i j less hj same)
      pick (no a) (yes more) = absurd (fine.slot_once j i more hi (sym same))
      pick (no a) (no b) = omega arith

  slot_new : (a : ℕ) → a < 64 → From records size number slot n a → slot_is_new (filled records size number slot n) a ≡ true
  unfolding slot_is_new
  slot_new a here f =
      all_each a (λ (b : ℕ). not (eqb (get_or (filled records size number slot n) b 0) (get_or (filled records size number slot n) a 0)))
      (λ b less. rw (ne_eqb _ _ (λ same.
      let range = fine.slots f.card f.before in
      let mine = f.its_slot in
      ⊎_elim (λ none. omega arith)
      (λ g. let one = same_card g.card f.card g.before f.before (sym g.its_slot ∙ same ∙ mine) in
      let twice : b ≡ a = sym g.its_number ∙ ap (λ (i : ℕ). value_at records size number i) one ∙ f.its_number in
      omega arith)
      (from records size number slot n b (omega arith)))))

  number_good_lem : (a : ℕ) → a < 64 → number_good (filled records size number slot n) top a ≡ true
  unfolding number_good
  number_good_lem a here =
      ⊎_elim (λ none. rw (eq-eqb (get_or (filled records size number slot n) a 0) 0 none))
      (λ f.
      let numbers = fine.numbers f.card f.before in
      let range = fine.slots f.card f.before in
      let its_number = f.its_number in
      let its_slot = f.its_slot in
      rw (
        ne_eqb (get_or (filled records size number slot n) a 0) 0 (omega arith),
        le-leb 1 a (omega arith),
        le-leb a top (omega arith),
        le-leb (get_or (filled records size number slot n) a 0) 63 (omega arith),
        slot_new a here f,
      ))
      (from records size number slot n a here)

-- the cards of a good header make a good table
cards_make : (records : List ℕ) (h : Header) (number slot : ℕ) → ranges_good h ≡ true → cards_good records h number slot ≡ true
    → table_good (record { k = h.width; rule = h.rule; slots = filled_of records h.length number slot h.cards }) ≡ true
unfolding ranges_good table_good slots_good
cards_make records h number slot ranges good =
    let parts = simp and-eq-true_iff at ranges in
    let top = 2 ^ h.width - 1 in
    let width : h.width ≤ 6 = omega (arith, leb-true) in
    let small : top ≤ 63 = omega (arith, pow_mono width) in
    let fine = checked records h number slot good in
    let counted = all_counted records h.length number slot top h.cards small fine h.cards (omega arith) in
    rw (
      le-leb 1 h.width (omega (arith, leb-true)),
      le-leb h.width 6 width,
      le-leb h.rule 4 (omega (arith, leb-true)),
      eq-eqb _ 64 (slots_length records h.length number slot h.cards),
      all_each 64 _ (λ a here. number_good_lem records h.length number slot top h.cards small fine a here),
      counted,
      le-leb 1 h.cards (omega (arith, leb-true)),
    )

-- A load that is done gives a good table
pub loaded_good : (file : List ℕ) → (load_table_of file).answer ≡ 0 → table_good (load_table_of file).table ≡ true
loaded_good file done =
    let d = load_done file done in
    rw d.its_table (cards_make (records_of file) (header_of file) d.anum d.slot d.ranges d.good)

-- A load that is refused gives the all-zero table
module _ where
  abbrev Zero : LoadedTable → Type 0
  Zero l = l.answer ≢ 0 → l.table ≡ (refused_with 0).table

  zero_or : (test : Bool) (n : ℕ) (next : LoadedTable) → Zero next → Zero (refuse_unless test n next)
  unfolding refuse_unless refused_with
  zero_or true n next then = then
  zero_or false n next then = λ _. refl

  zero_columns : (number slot : Option ℕ) (records : List ℕ) (h : Header) → Zero (columns_found number slot records h)
  unfolding columns_found refused_with cards_of
  zero_columns (Some number) (Some slot) records h = zero_or (cards_good records h number slot) 7 _ (λ some. absurd (some refl))
  zero_columns (Some number) None records h = λ _. refl
  zero_columns None slot records h = λ _. refl

  pub refused_zero : (file : List ℕ) → (load_table_of file).answer ≢ 0 → (load_table_of file).table ≡ (refused_with 0).table
  unfolding load_table_of header_read columns_read
  refused_zero file = zero_or _ 1 _ (zero_or _ 2 _ (zero_or _ 3 _ (zero_or _ 4 _ (zero_or _ 5 _ (zero_columns _ _ _ (header_of file))))))
