-- The grants of a run, summed over the cards of the table: the share of a card that waits at every grant, and the grants that go to others while a
-- card waits. Assumes nothing.
use Prim.Native.Nat.{ℕ, zero, suc, ◌+◌, ◌-◌, ◌*◌, ◌/◌, ◌≤◌, ◌<◌, zero-le}
use native.Mathlib.Nat.{mul-suc, mul-le-mul_right, div-lt_iff_lt-mul}
use native.Mathlib.Omega.{arith}
use mathlib.Core.Bool.{Bool, true, false, cond, true≢false}
use mathlib.Core.List.{List, [], ◌∷◌, ◌++◌}
use mathlib.Core.Logic.{◌⊎◌, inl, inr, ◌≢◌}
use mathlib.Core.Path.{◌≡◌, refl, sym, ap, ◌∙◌, subst}
use lib.Dec.{eqb}
use lib.ListN.{length}
use borrow.Author.Tests.{eq-eqb, ne_eqb, lt-ltb}
use Rattle.arbiter.proofs.Formed.{waiting_below, waiting_card}
use Rattle.arbiter.proofs.Seen.{Seen, quiet, grant}
use Rattle.arbiter.specs.State.{waits, is_card}
use Rattle.state.specs.declared.RackState.{RackState}
use Rattle.cards.proofs.Below.{same_or_not}
use Rattle.cards.specs.Below.{sum_below}
use Rattle.cards.specs.Table.{has_card}
use Rattle.cards.specs.declared.Table.{Table}
use Rattle.promises.proofs.Sums.{sum_zero, sum_add, sum_one, sum_scale, sum_le, sum_lt}
use Rattle.promises.proofs.Turns.{seen_event, same_table_after}
use Rattle.promises.specs.Runs.{Event, outcome_of, next, winner, is_grant, grants, times, times_others, cards_of, WaitsThrough, WaitsAtGrants}

-- ---- a list of cards

-- each number of the list is below m and passes the test
data All (m : ℕ) (test : ℕ → Bool) : List ℕ → Type 0 where
  none : All m test []
  more : {x : ℕ} {l : List ℕ} → x < m → test x ≡ true → All m test l → All m test (x ∷ l)

sum-times : {m : ℕ} {test : ℕ → Bool} {l : List ℕ} → All m test l → sum_below m (λ n. times n l) ≡ length l
unfolding times
sum-times {m} none = sum_zero m
sum-times {m} (more {x} {l} h t all) =
    sum_add m (λ n. cond (eqb x n) 1 0) (λ n. times n l) ∙ rw (sum_one m x h, sum-times all) (omega arith)

times_other : {m : ℕ} {test : ℕ → Bool} {l : List ℕ} → All m test l → (n : ℕ) → test n ≡ false → times n l ≡ 0
unfolding times
times_other none n f = refl
times_other {test = test} (more {x} h t all) n f =
    rw (ne_eqb x n (λ p. true≢false (sym t ∙ ap test p ∙ f)), times_other all n f)

-- a number of the list is a or another
pub times_others_lem : (a : ℕ) (l : List ℕ) → times_others a l + times a l ≡ length l
unfolding times times_others
times_others_lem a [] = refl
times_others_lem a (x ∷ l) = go (eqb x a) (times_others_lem a l)
  where
    go : (t : Bool) → times_others a l + times a l ≡ length l → (cond t 0 1 + times_others a l) + (cond t 1 0 + times a l) ≡ length (x ∷ l)
    go true ih = omega arith
    go false ih = omega arith

mul_sub_one : (k x : ℕ) → k * (x - 1) ≡ k * x - k
mul_sub_one k zero = omega arith
mul_sub_one k (suc x) =
    let before : suc x - 1 ≡ x = omega arith in
    let after : k * suc x ≡ k * x + k = mul-suc k x in
    rw (before, after) (omega arith)

-- ---- the grants of a run

-- only cards are granted
cards_only : (es : List Event) (s : RackState) → All 64 (is_card s) (grants s es)
unfolding grants
cards_only [] s = none
cards_only (e ∷ es) s =
    go (seen_event s e)
    (subst (λ (t : Table). All 64 (has_card t.slots) (grants (next s e) es)) (same_table_after s e) (cards_only es (next s e)))
  where
    go : Seen s (outcome_of s e) → All 64 (is_card s) (grants (next s e) es)
        → All 64 (is_card s) (cond (is_grant s e) (winner s e ∷ []) [] ++ grants (next s e) es)
    go (quiet z g) ih = rw z ih
    go (grant z free room st won) ih = rw (lt-ltb 0 (winner s e) won.positive) (more won.below won.card ih)

module _ (a : ℕ) where
  -- a card that waits at every grant is in the table, if there is a grant
  waiter_card : (es : List Event) (s : RackState) → WaitsAtGrants a s es → (grants s es ≡ []) ⊎ ((a < 64) × (is_card s a ≡ true))
  unfolding grants WaitsAtGrants
  waiter_card [] s h = inl refl
  waiter_card (e ∷ es) s h =
      go (seen_event s e)
      (subst (λ (t : Table). (grants (next s e) es ≡ []) ⊎ ((a < 64) × (has_card t.slots a ≡ true))) (same_table_after s e)
      (waiter_card es (next s e) h.1))
    where
      go : Seen s (outcome_of s e) → (grants (next s e) es ≡ []) ⊎ ((a < 64) × (is_card s a ≡ true))
          → (cond (is_grant s e) (winner s e ∷ []) [] ++ grants (next s e) es ≡ []) ⊎ ((a < 64) × (is_card s a ≡ true))
      go (quiet z g) ih = rw z ih
      go (grant z free room st won) ih =
          let t : waits s a ≡ true = h.0 (lt-ltb 0 (winner s e) won.positive) in
          inr (waiting_below s won.formed a t, waiting_card s won.formed a t)

  -- and then the table has a card
  pub no_grant_or_card : (es : List Event) (s : RackState) → WaitsAtGrants a s es → (grants s es ≡ []) ⊎ (0 < cards_of s)
  no_grant_or_card es s h = go (waiter_card es s h)
    where
      go : (grants s es ≡ []) ⊎ ((a < 64) × (is_card s a ≡ true)) → (grants s es ≡ []) ⊎ (0 < cards_of s)
      go (inl p) = inl p
      go (inr k) =
          inr (omega (
            arith,
            sum_zero 64,
            sum_lt 64 a (λ n. 0) (λ n. cond (is_card s n) 1 0) (λ n _. zero-le) (rw k.1 (omega arith)) k.0,
          ))

  -- ---- the others

  pub waits_at_grants : (es : List Event) (s : RackState) → WaitsThrough a s es → WaitsAtGrants a s es
  unfolding WaitsThrough WaitsAtGrants
  waits_at_grants [] s h = tt
  waits_at_grants (e ∷ es) s h = (λ _. h.0, waits_at_grants es (next s e) h.1)

  only_a : a < 64 → (x : ℕ) → sum_below 64 (λ n. cond (eqb a n) x 0) ≡ x
  only_a below x = sum_scale 64 x (eqb a) ∙ rw (sum_one 64 a below) (omega arith)

  -- where each other card is granted at most k times
  module _ (k : ℕ) (es : List Event) (s : RackState) (most : (b : ℕ) → a ≢ b → times b (grants s es) ≤ k) (h : WaitsAtGrants a s es) where
    l : List ℕ
    l = grants s es

    c : ℕ
    c = times a l

    given : ℕ → ℕ
    given n = times n l + cond (eqb a n) k 0

    room : ℕ → ℕ
    room n = cond (eqb a n) c 0 + cond (is_card s n) k 0

    given_room : is_card s a ≡ true → (n : ℕ) → given n ≤ room n
    unfolding given room c l
    given_room card n = go (is_card s n) refl (same_or_not a n)
      where
        go : (t : Bool) → is_card s n ≡ t → (a ≡ n) ⊎ (a ≢ n) → times n l + cond (eqb a n) k 0 ≤ cond (eqb a n) c 0 + cond t k 0
        go true e (inl p) = rw (← p, eq-eqb a a refl) (omega arith)
        go true e (inr q) = rw (ne_eqb a n q) (omega (arith, most n q))
        go false e (inl p) = absurd (true≢false (sym card ∙ ap (is_card s) p ∙ e))
        go false e (inr q) = rw (ne_eqb a n q, times_other (cards_only es s) n e) (omega arith)

    all_given : a < 64 → sum_below 64 given ≡ length l + k
    unfolding given l
    all_given below = sum_add 64 (λ n. times n l) (λ n. cond (eqb a n) k 0) ∙ rw (sum-times (cards_only es s), only_a below k)

    all_room : a < 64 → sum_below 64 room ≡ c + k * cards_of s
    unfolding room
    all_room below = sum_add 64 (λ n. cond (eqb a n) c 0) (λ n. cond (is_card s n) k 0) ∙ rw (only_a below c, sum_scale 64 k (is_card s))

    -- the others together are granted at most k times for each card but a
    pub others : times_others a (grants s es) ≤ k * (cards_of s - 1)
    unfolding c l
    others = go (waiter_card es s h)
      where
        go : (grants s es ≡ []) ⊎ ((a < 64) × (is_card s a ≡ true)) → times_others a l ≤ k * (cards_of s - 1)
        go (inl p) = omega (arith, times_others_lem a l, ap length p)
        go (inr card) =
            rw (mul_sub_one k (cards_of s)) (omega (
              arith,
              times_others_lem a l,
              all_given card.0,
              all_room card.0,
              sum_le 64 given room (λ n _. given_room card.1 n),
            ))

    -- and fewer, where one of those cards is granted fewer
    pub others_fewer : (d : ℕ) → d < 64 → is_card s d ≡ true → a ≢ d → times d (grants s es) < k → times_others a (grants s es) ≤ k * (cards_of s - 1) - 1
    unfolding c l given room
    others_fewer d d-below d-card a≢d fewer = go (waiter_card es s h)
      where
        go : (grants s es ≡ []) ⊎ ((a < 64) × (is_card s a ≡ true)) → times_others a l ≤ k * (cards_of s - 1) - 1
        go (inl p) = omega (arith, times_others_lem a l, ap length p)
        go (inr card) =
            rw (mul_sub_one k (cards_of s)) (omega (
              arith,
              times_others_lem a l,
              all_given card.0,
              all_room card.0,
              sum_lt 64 d given room (λ n _. given_room card.1 n) (rw (ne_eqb a d a≢d, d-card) (omega arith)) d-below,
            ))

-- ---- the share, from what goes to the others

-- where each other card has as many grants as a, and m more are left for them together
module _ (a : ℕ) (es : List Event) (s : RackState) (h : WaitsAtGrants a s es) (m : ℕ)
    (few : times_others a (grants s es) ≤ times a (grants s es) * (cards_of s - 1) + m) where
  with_own : (o c n : ℕ) → 0 < n → o ≤ c * (n - 1) + m → o + c ≤ n * c + m
  with_own o c zero some less = absurd (omega arith)
  with_own o c (suc n) some less =
      let before : suc n - 1 ≡ n = omega arith in
      omega (arith, rw before at less)

  pub total_but : length (grants s es) ≤ cards_of s * times a (grants s es) + m
  total_but = go (no_grant_or_card a es s h)
    where
      go : (grants s es ≡ []) ⊎ (0 < cards_of s) → length (grants s es) ≤ cards_of s * times a (grants s es) + m
      go (inl p) = rw p (omega arith)
      go (inr some) = omega (arith, times_others_lem a (grants s es), with_own _ _ (cards_of s) some few)

  pub part_of : cards_of s ≤ m + 1 → length (grants s es) / (m + 1) ≤ times a (grants s es)
  part_of wide =
      let c : ℕ = times a (grants s es) in
      let less : length (grants s es) < (c + 1) * (m + 1) = omega (arith, total_but, mul-le-mul_right c wide) in
      omega (arith, (div-lt_iff_lt-mul {k = m + 1} {x = length (grants s es)} {y = c + 1} (omega arith)).1 less)
