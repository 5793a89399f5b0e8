-- Loading what was saved gives the table again, so that only equal tables save to equal bytes. Assumes nothing.
use Prim.Native.Nat.{ℕ, ◌+◌, ◌*◌, ◌-◌, ◌^◌, ◌≤◌, ◌<◌}
use native.Mathlib.Omega.{arith}
use mathlib.Core.Bool.{true, false, not}
use mathlib.Core.List.{List, [], ◌++◌}
use mathlib.Core.Path.{◌≡◌, refl, sym, ap, ◌∙◌}
use lib.Dec.{eqb}
use lib.ListN.{length, get_or, take, drop}
use lib.Seq.{take_at}
use borrow.Author.Tests.{eqb-true, eqb-false, le-leb, eq-eqb, not-true, not-false}
use Rattle.cardfile.proofs.Laws.{distinct_each}
use Rattle.cardfile.proofs.Rows.{RowAt, row-known, row_rises, column_back}
use Rattle.cardfile.specs.Format.{header_of, ranges_good, layout_good, name_byte_good, name_good, entry_good, name_is_new, directory_good, column_of}
use Rattle.cardfile.specs.Format.{value_at, column_within, column_distinct, cards_good, filled_of}
use Rattle.cardfile.specs.Format.{refuse_unless, cards_of, columns_found, columns_read, header_read, load_table_of}
use Rattle.cardfile.specs.declared.Header.{Header}
use Rattle.cardfile.specs.LoadedTable.{LoadedTable}
use Rattle.cards.proofs.Below.{all_at, all_each}
use Rattle.cards.proofs.SavingLaws.{cards_length, saved_length_lem}
use Rattle.cards.proofs.TableKnown.{has_slot, number_known, no_more_cards, table_known}
use Rattle.cards.specs.Below.{all_below}
use Rattle.cards.specs.Saving.{head_bytes, saved_bytes, saved_length, buffer_after, card_row, card_bytes}
use Rattle.cards.specs.Table.{table_good, has_card, card_count, number_good, slots_good, slot_is_new}
use Rattle.cards.specs.declared.Table.{Table}

-- What is known of a saved card: its number is in the table, and its slot is the number's
module _ (slots : List ℕ) where
  abbrev row : ℕ → List ℕ
  row a = card_row a (get_or slots a 0)

  known : (j : ℕ) → j < card_count slots 64 → RowAt 2 (has_card slots) row (card_bytes slots 64) 64 j
  unfolding card_row
  known = row-known 2 (has_card slots) row (λ a. refl) (omega arith) (λ a. refl) 64

  rises : (i j : ℕ) → i < j → j < card_count slots 64 → value_at (card_bytes slots 64) 2 0 i < value_at (card_bytes slots 64) 2 0 j
  unfolding card_row
  rises = row_rises 2 (has_card slots) row (λ a. refl) (omega arith) (λ a. refl) 64

  its_slot : (j : ℕ) → j < card_count slots 64 → value_at (card_bytes slots 64) 2 1 j ≡ get_or slots (value_at (card_bytes slots 64) 2 0 j) 0
  unfolding card_row
  its_slot j before = (known j before).holds 1 (omega arith)

  not_in_table : (a : ℕ) → has_card slots a ≡ false → get_or slots a 0 ≡ 0
  unfolding has_card
  not_in_table a none = eqb-true _ _ (not-false _ none)

  slots_back : length slots ≡ 64 → filled_of (card_bytes slots 64) 2 0 1 (card_count slots 64) ≡ slots
  unfolding card_row
  slots_back long =
      column_back 2 (has_card slots) row (λ a. refl) (omega arith) (λ a. refl) slots long 1 (omega arith) (λ a. refl) (λ a below. not_in_table a)

-- The checks of a load hold of what was saved
module _ (slots : List ℕ) (top : ℕ) (good : slots_good slots top 64 ≡ true) where
  abbrev bytes : List ℕ
  bytes = card_bytes slots 64

  abbrev cards : ℕ
  cards = card_count slots 64

  abbrev number : ℕ → ℕ
  number j = value_at bytes 2 0 j

  card_good_lem : (j : ℕ) → j < cards → (1 ≤ number j) × (number j ≤ top) × (get_or slots (number j) 0 ≤ 63) × (slot_is_new slots (number j) ≡ true)
  unfolding slots_good
  card_good_lem j before =
      let card = known slots j before in
      let passed = all_at 64 (λ (a : ℕ). number_good slots top a) good (number j) card.below in
      number_known slots top (number j) passed (has_slot slots (number j) card.passes)

  numbers_within : column_within bytes 2 0 top cards ≡ true
  unfolding column_within
  numbers_within = all_each cards _ (λ j before. let fine = card_good_lem j before in rw (le-leb _ _ fine.0, le-leb _ _ fine.1))

  slots_within : column_within bytes 2 1 63 cards ≡ true
  unfolding column_within
  slots_within =
      all_each cards _
      (λ j before.
      let some = has_slot slots (number j) (known slots j before).passes in
      rw (its_slot slots j before, le-leb 1 _ some, le-leb _ _ (card_good_lem j before).2))

  numbers_distinct : column_distinct bytes 2 0 cards ≡ true
  numbers_distinct = distinct_each bytes 2 0 cards (λ i j order before same. let rise = rises slots i j order before in omega arith)

  slots_distinct : column_distinct bytes 2 1 cards ≡ true
  unfolding slot_is_new
  slots_distinct =
      distinct_each bytes 2 1 cards
      (λ i j order before same.
      let new = (card_good_lem j before).3 in
      let rise = rises slots i j order before in
      let differ = all_at (number j) (λ (b : ℕ). not (eqb (get_or slots b 0) (get_or slots (number j) 0))) new (number i) rise in
      eqb-false _ _ (not-true _ differ) (sym (its_slot slots i (omega arith)) ∙ same ∙ its_slot slots j before))

-- The header of a saved table
abbrev saved_header : ℕ → ℕ → ℕ → Header
saved_header k rule n = record { edition = 1; columns = 2; cards = n; width = k; rule = rule; directory = 12; records = 24; length = 2 }

module _ (k rule n : ℕ) (cards : List ℕ) where
  saved_header_lem : header_of (head_bytes k rule n ++ cards) ≡ saved_header k rule n
  unfolding header_of
  saved_header_lem = refl

  saved_ranges : 1 ≤ k → k ≤ 6 → rule ≤ 4 → 1 ≤ n → n ≤ 63 → n ≤ 2 ^ k - 1 → ranges_good (saved_header k rule n) ≡ true
  unfolding ranges_good
  saved_ranges k₁ k₂ r n₁ n₂ n₃ = rw (le-leb _ _ n₁, le-leb _ _ n₂, le-leb _ _ k₁, le-leb _ _ k₂, le-leb _ _ r, le-leb _ _ n₃)

  saved_layout : length cards ≡ n * 2 → layout_good (saved_header k rule n) (length (head_bytes k rule n ++ cards)) ≡ true
  unfolding layout_good
  saved_layout size = eq-eqb (24 + n * 2) (length (head_bytes k rule n ++ cards)) (omega arith)

  -- the directory and its columns are found as they were written
  saved_parts : columns_read (take 12 (drop 12 (head_bytes k rule n ++ cards))) (drop 24 (head_bytes k rule n ++ cards)) (saved_header k rule n)
      ≡ cards_of cards (saved_header k rule n) 0 1
  unfolding columns_read refuse_unless columns_found column_of directory_good entry_good name_good name_byte_good name_is_new all_below
  saved_parts = refl

  saved_loads : length cards ≡ n * 2 → n ≤ 63 → ranges_good (saved_header k rule n) ≡ true → cards_good cards (saved_header k rule n) 0 1 ≡ true
      → load_table_of (head_bytes k rule n ++ cards) ≡ record { answer = 0; table = record { k = k; rule = rule; slots = filled_of cards 2 0 1 n } }
  unfolding load_table_of header_read cards_of refuse_unless
  saved_loads size few ranges good =
      let all = length (head_bytes k rule n ++ cards) in
      rw (le-leb 12 all (omega arith), le-leb all 8192 (omega arith), saved_header_lem, ranges, saved_layout size) (saved_parts ∙ rw good)

-- Loading a saved table gives the table
pub loads_saved : (t : Table) → table_good t ≡ true → load_table_of (saved_bytes t) ≡ record { answer = 0; table = t }
unfolding saved_bytes cards_good
loads_saved t good =
    let n = card_count t.slots 64 in
    let top = 2 ^ t.k - 1 in
    let known = table_known t good in
    let slots = t.slots in
    let fine = known.numbers in
    let few = no_more_cards slots top 64 fine in
    let ranges = saved_ranges t.k t.rule n [] known.width.0 known.width.1 known.rule known.some few.0 few.1 in
    saved_loads t.k t.rule n (card_bytes slots 64) (cards_length slots 64) few.0 ranges
    (rw (numbers_within slots top fine, slots_within slots top fine, numbers_distinct slots top fine, slots_distinct slots top fine))
    ∙ rw (slots_back slots known.long)

-- and so does loading the front of the buffer that a save leaves, whatever it held
pub round_trip : (t : Table) (buf : List ℕ) → table_good t ≡ true → saved_length t ≤ length buf
    → load_table_of (take (saved_length t) (buffer_after t buf)) ≡ record { answer = 0; table = t }
unfolding buffer_after
round_trip t buf good room =
    rw (good, le-leb _ _ room, take_at (saved_bytes t) (drop (saved_length t) buf) (saved_length t) (saved_length_lem t)) (loads_saved t good)

-- Every good table is one that a load can give
pub good_loads : (t : Table) → table_good t ≡ true → (file : List ℕ) × (load_table_of file ≡ record { answer = 0; table = t })
good_loads t good = (saved_bytes t, loads_saved t good)

-- Good tables that are saved alike are equal
pub saved_equal : (t u : Table) → table_good t ≡ true → table_good u ≡ true → saved_bytes t ≡ saved_bytes u → t ≡ u
saved_equal t u t-good u-good same =
    ap (λ (l : LoadedTable). l.table) (sym (loads_saved t t-good) ∙ ap load_table_of same ∙ loads_saved u u-good)
