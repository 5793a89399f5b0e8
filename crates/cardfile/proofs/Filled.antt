-- What the records fill, where they pass the checks: each record's number has its slot, no other number has one, and there are as many cards as
-- records. Assumes nothing.
use Prim.Native.Nat.{ℕ, zero, suc, ◌-◌, ◌^◌, ◌≤◌, ◌<◌}
use native.Mathlib.Nat.{not-suc-le-zero, eq-or-lt_of_le}
use native.Mathlib.Omega.{arith}
use mathlib.Core.Bool.{Bool, true, false, not, and-eq-true_iff}
use mathlib.Core.List.{List}
use mathlib.Core.Logic.{◌⊎◌, inl, inr, ◌≢◌, ⊎_elim}
use mathlib.Core.Path.{◌≡◌, refl, sym, ap, ◌∙◌}
use lib.Dec.{eqb}
use lib.ListN.{length, get_or, set, length-set, get_or-replicate, get_or-eq_default}
use lib.Seq.{get_or-set_same, get_or-set_other}
use borrow.Author.Tests.{eqb-true, eqb-false, leb-true, ne_eqb, not-true}
use Rattle.cardfile.specs.Format.{value_at, column_within, value_is_new, column_distinct, cards_good, filled_of}
use Rattle.cardfile.specs.declared.Header.{Header}
use Rattle.cards.proofs.Below.{all_at, le_or_lt}
use Rattle.cards.specs.Below.{sum_below}
use Rattle.cards.specs.Table.{has_card, card_count}

-- What the checks of the records show
pub record Checked (records : List ℕ) (size number slot top n : ℕ) : Type 0 where
  pub numbers : (j : ℕ) → j < n → (1 ≤ value_at records size number j) × (value_at records size number j ≤ top)
  pub slots : (j : ℕ) → j < n → (1 ≤ value_at records size slot j) × (value_at records size slot j ≤ 63)
  pub number_once : (i j : ℕ) → i < j → j < n → value_at records size number i ≡ value_at records size number j → ⊥
  pub slot_once : (i j : ℕ) → i < j → j < n → value_at records size slot i ≡ value_at records size slot j → ⊥

module _ (records : List ℕ) (size offset n : ℕ) where
  within_at : (high : ℕ) → column_within records size offset high n ≡ true → (j : ℕ) → j < n
      → (1 ≤ value_at records size offset j) × (value_at records size offset j ≤ high)
  unfolding column_within
  within_at high good j before =
      let parts = simp and-eq-true_iff at (all_at n _ good j before) in
      (leb-true _ _ parts.0, leb-true _ _ parts.1)

  distinct_at : column_distinct records size offset n ≡ true → (i j : ℕ) → i < j → j < n
      → value_at records size offset i ≡ value_at records size offset j → ⊥
  unfolding column_distinct value_is_new
  distinct_at good i j order before =
      let new = all_at n (λ (e : ℕ). value_is_new records size offset e) good j before in
      eqb-false _ _ (not-true _ (all_at j (λ (e : ℕ). not (eqb (value_at records size offset e) (value_at records size offset j))) new i order))

pub checked : (records : List ℕ) (h : Header) (number slot : ℕ) → cards_good records h number slot ≡ true
    → Checked records h.length number slot (2 ^ h.width - 1) h.cards
unfolding cards_good
checked records h number slot good =
    let parts = simp and-eq-true_iff at good in
    record {
      numbers = within_at records h.length number h.cards (2 ^ h.width - 1) parts.0.0;
      slots = within_at records h.length slot h.cards 63 parts.0.1;
      number_once = distinct_at records h.length number h.cards parts.1.0;
      slot_once = distinct_at records h.length slot h.cards parts.1.1;
    }

-- a card more: a slot set where there was none
module _ (slots : List ℕ) (a slot : ℕ) (free : get_or slots a 0 ≡ 0) (some : 0 < slot) (inside : a < length slots) where
  below_it : (n : ℕ) → n ≤ a → card_count (set slots a slot) n ≡ card_count slots n
  unfolding sum_below has_card
  below_it zero h = refl
  below_it (suc n) h = rw (below_it n (omega arith), get_or-set_other slots a n slot 0 (λ same. omega arith))

  one_more_lem : (n : ℕ) → a < n → card_count (set slots a slot) n ≡ suc (card_count slots n)
  unfolding sum_below has_card
  one_more_lem zero none = absurd (not-suc-le-zero none)
  one_more_lem (suc n) h =
      ⊎_elim
      (λ last.
      rw (below_it n (omega arith), ← last, get_or-set_same slots a slot 0 inside, ne_eqb slot 0 (omega arith), free) (omega arith))
      (λ early. rw (one_more_lem n early, get_or-set_other slots a n slot 0 (λ same. omega arith)) (omega arith))
      (eq-or-lt_of_le {n = a} {m = n} (omega arith))

module _ (records : List ℕ) (size number slot : ℕ) where
  abbrev pub filled : ℕ → List ℕ
  filled j = filled_of records size number slot j

  pub slots_length : (j : ℕ) → length (filled j) ≡ 64
  unfolding filled_of
  slots_length zero = refl
  slots_length (suc j) = simp length-set (slots_length j)

  -- where a slot comes from: card i, the last of the first j with number a
  pub record From (j a : ℕ) : Type 0 where
    pub card : ℕ
    pub before : card < j
    pub its_number : value_at records size number card ≡ a
    pub its_slot : get_or (filled j) a 0 ≡ value_at records size slot card

  next_from : (j a : ℕ) → a < 64 → (get_or (filled j) a 0 ≡ 0) ⊎ From j a → (t : Bool) → eqb a (value_at records size number j) ≡ t
      → (get_or (filled (suc j)) a 0 ≡ 0) ⊎ From (suc j) a
  unfolding filled_of
  next_from j a small old true here =
      let same = eqb-true a (value_at records size number j) here in
      let long = slots_length j in
      inr (record {
        card = j;
        before = omega arith;
        its_number = sym same;
        its_slot = rw same (get_or-set_same (filled j) (value_at records size number j) (value_at records size slot j) 0 (omega arith));
      })
  next_from j a small old false other =
      let kept = get_or-set_other (filled j) (value_at records size number j) a (value_at records size slot j) 0 (eqb-false _ _ other) in
      ⊎_elim (λ none. inl (kept ∙ none))
      (λ f. inr (record { card = f.card; before = omega (arith, f.before); its_number = f.its_number; its_slot = kept ∙ f.its_slot }))
      old

  pub from : (j a : ℕ) → a < 64 → (get_or (filled j) a 0 ≡ 0) ⊎ From j a
  unfolding filled_of
  from zero a small = inl (get_or-replicate 64 a 0 0 small)
  from (suc j) a small = next_from j a small (from j a small) (eqb a (value_at records size number j)) refl

  -- a number of no record has no card
  pub none_else : (m a : ℕ) → ((j : ℕ) → j < m → value_at records size number j ≢ a) → get_or (filled m) a 0 ≡ 0
  none_else m a none = go (le_or_lt 64 a)
    where
      go : (64 ≤ a) ⊎ (a < 64) → get_or (filled m) a 0 ≡ 0
      go (inl large) = get_or-eq_default (filled m) 0 (rw (slots_length m) large)
      go (inr small) = ⊎_elim (λ e. e) (λ f. absurd (none f.card f.before f.its_number)) (from m a small)

  module _ (top n : ℕ) (small : top ≤ 63) (fine : Checked records size number slot top n) where
    number_small : (j : ℕ) → j < n → value_at records size number j < 64
    number_small j before = omega (arith, fine.numbers j before)

    -- each number has its record's slot
    pub each_there : (m : ℕ) → m ≤ n → (j : ℕ) → j < m → get_or (filled m) (value_at records size number j) 0 ≡ value_at records size slot j
    unfolding filled_of
    each_there zero few j none = absurd (not-suc-le-zero none)
    each_there (suc m) few j less =
        ⊎_elim
        (λ last. rw last (get_or-set_same (filled m) (value_at records size number m) (value_at records size slot m) 0
        (rw (slots_length m) (number_small m few))))
        (λ early.
        get_or-set_other (filled m) (value_at records size number m) (value_at records size number j) (value_at records size slot m) 0
        (fine.number_once j m early few) ∙ each_there m (omega arith) j early)
        (eq-or-lt_of_le {n = j} {m = m} (omega arith))

    -- and so there are as many cards as records
    pub all_counted : (m : ℕ) → m ≤ n → card_count (filled m) 64 ≡ m
    unfolding filled_of sum_below has_card
    all_counted zero few = refl
    all_counted (suc m) few =
        let a = value_at records size number m in
        let range = fine.slots m few in
        let free = none_else m a (λ j early. fine.number_once j m early few) in
        let long = slots_length m in
        let here = number_small m few in
        one_more_lem (filled m) a (value_at records size slot m) free (omega arith) (omega arith) 64 here ∙ ap suc (all_counted m (omega arith))
