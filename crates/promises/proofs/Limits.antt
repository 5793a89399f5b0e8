-- What a rule with a potential promises from a freshly loaded table: to two cards, and, summed over the cards of the table, to the others together.
-- Assumes nothing.
use Prim.Native.Nat.{ℕ, ◌+◌, ◌-◌, ◌*◌, ◌≤◌}
use native.Mathlib.Nat.{add-mul}
use native.Mathlib.Omega.{arith}
use mathlib.Core.List.{List}
use mathlib.Core.Logic.{◌⊎◌, inl, inr, ◌≢◌}
use mathlib.Core.Path.{◌≡◌, ap}
use Rattle.arbiter.specs.State.{fresh_of}
use Rattle.state.specs.declared.RackState.{RackState}
use Rattle.cards.proofs.Below.{same_or_not}
use Rattle.cards.specs.Table.{card_count}
use Rattle.cards.specs.declared.Table.{Table}
use Rattle.promises.proofs.Share.{waits_at_grants, others, total_but, part_of}
use Rattle.promises.proofs.Turns.{Potential, bounded_by, bounded, ahead_by, ahead, same_table}
use Rattle.promises.specs.Fairness.{AtMost, OthersWithin, ShareOf, Within, ShareBut}
use Rattle.promises.specs.Runs.{Event, after, grants, times, times_others, cards_of, WaitsAtGrants}

-- no event changes how many cards there are
pub same_cards : (t : Table) (before : List Event) → cards_of (after (fresh_of t) before) ≡ cards_of (fresh_of t)
same_cards t before = ap (λ (u : Table). card_count u.slots 64) (same_table (fresh_of t) before)

module _ (rules : ℕ → Type 0) (n : ℕ) (potential : (a b : ℕ) → a ≢ b → Potential rules n a b) (rule : ℕ) (r : rules rule) where
  -- nor the rule
  pub rules_after : (t : Table) → t.rule ≡ rule → (before : List Event) → rules (after (fresh_of t) before).table.rule
  rules_after t e before = rw (same_table (fresh_of t) before, e) r

  -- ---- two cards

  pub at_most : AtMost n rule
  at_most t e before during waiter other d h =
      bounded waiter other d (potential waiter other d) during (after (fresh_of t) before) (rules_after t e before) h

  pub within : Within n rule
  within t e before during one two h₁ h₂ = go (same_or_not two one)
    where
      s : RackState
      s = after (fresh_of t) before

      go : (two ≡ one) ⊎ (two ≢ one) → times one (grants s during) ≤ times two (grants s during) + n
      go (inl p) = rw p (omega arith)
      go (inr d) = ahead two one d (potential two one d) during s (rules_after t e before) h₂

  -- ---- all others

  -- each other card is granted at most c times, and as often more as it has turns left
  abbrev pub InTurns : ℕ → ℕ → RackState → List Event → Type 0
  InTurns a c s es = (b : ℕ) (d : a ≢ b) → times b (grants s es) ≤ c + (potential a b d).left s

  -- then they are granted together at most c times each, and `most N` times more
  abbrev pub Limited : (ℕ → ℕ) → Type 0
  Limited most =
      (t : Table) → t.rule ≡ rule → (before during : List Event) (a c : ℕ)
      → WaitsAtGrants a (after (fresh_of t) before) during
      → InTurns a c (after (fresh_of t) before) during
      → times_others a (grants (after (fresh_of t) before) during)
      ≤ c * (cards_of (after (fresh_of t) before) - 1) + most (cards_of (after (fresh_of t) before))

  -- n times for each of them
  pub each_limited : Limited (λ cards. n * (cards - 1))
  each_limited t e before during a c h turns =
      let s : RackState = after (fresh_of t) before in
      rw (← add-mul c n (cards_of s - 1)) (others a (c + n) during s (λ b d. omega (arith, turns b d, (potential a b d).limit s)) h)

  module _ (most : ℕ → ℕ) (limited : Limited most) where
    pub others_within : OthersWithin most rule
    others_within t e before during waiter h =
        let s : RackState = after (fresh_of t) before in
        let turns : InTurns waiter 0 s during = λ b d. omega (arith, bounded_by waiter b d (potential waiter b d) during s (rules_after t e before) h) in
        rw (← same_cards t before) (omega (arith, limited t e before during waiter 0 (waits_at_grants waiter during s h) turns))

    -- with c the grants of the card itself
    own : (t : Table) → t.rule ≡ rule → (before during : List Event) (card : ℕ) → WaitsAtGrants card (after (fresh_of t) before) during
        → times_others card (grants (after (fresh_of t) before) during)
        ≤ times card (grants (after (fresh_of t) before) during) * (cards_of (after (fresh_of t) before) - 1) + most (cards_of (after (fresh_of t) before))
    own t e before during card h =
        let s : RackState = after (fresh_of t) before in
        limited t e before during card (times card (grants s during)) h
        (λ b d. ahead_by card b d (potential card b d) during s (rules_after t e before) h)

    pub share_but : ShareBut most rule
    share_but t e before during card h =
        let s : RackState = after (fresh_of t) before in
        rw (← same_cards t before) (omega (arith, total_but card during s h (most (cards_of s)) (own t e before during card h)))

    pub share_of : ((cards : ℕ) → cards ≤ most cards + 1) → ShareOf (λ cards. most cards + 1) rule
    share_of wide t e before during card h =
        let s : RackState = after (fresh_of t) before in
        rw (← same_cards t before) (part_of card during s h (most (cards_of s)) (own t e before during card h) (wide (cards_of s)))
