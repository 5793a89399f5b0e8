-- The competing numbers are no two alike, so that the settled lines are the number of one card only: an event that names a winner shows 1, and any
-- other 0. Assumes nothing.
use Prim.Native.Nat.{ℕ, zero, suc, ◌+◌, ◌^◌, ◌%◌, ◌≤◌, ◌<◌}
use native.Mathlib.Nat.{not-suc-le-zero, le_of_suc-le-suc, eq-or-lt_of_le}
use native.Mathlib.Omega.{arith}
use mathlib.Core.Bool.{Bool, true, false, cond}
use mathlib.Core.List.{[], ◌∷◌}
use mathlib.Core.Logic.{◌⊎◌, inl, inr, ◌≢◌}
use mathlib.Core.Path.{◌≡◌, refl, sym, ap, ◌∙◌}
use lib.Dec.{eqb}
use borrow.Author.Tests.{eqb-true, eq-eqb, ne_eqb}
use Rattle.arbiter.proofs.Formed.{formed_of, some_wait, waiting_below, waiting_card, card_small}
use Rattle.arbiter.proofs.Numbers.{competitor_waits, wide, settles}
use Rattle.arbiter.proofs.Refusals.{MayArbitrate, may_arbitrate}
use Rattle.arbiter.proofs.Winner.{Won, won, arbitrated_won}
use Rattle.arbiter.specs.Arbitrate.{number_of, competes, competing_below, competing, settling_of, value_now, winner_of, some_loser_full, won_by}
use Rattle.arbiter.specs.Arbitrate.{arbitrated, arbitrate_refusal, arbitrate_of, event_of}
use Rattle.arbiter.specs.Events.{answered, answered_by, request_refusal, release_refusal}
use Rattle.arbiter.specs.State.{well_formed}
use Rattle.arbiter.specs.Outcome.{Outcome}
use Rattle.state.specs.declared.RackState.{RackState}
use Rattle.lines.proofs.Matches.{equal_append, equal_one, equal_none}
use Rattle.lines.specs.Settle.{equal_to}
use Rattle.lines.specs.Settled.{Settled}

module _ (s : RackState) (w : ℕ) (won : Won s w) where
  -- the card of a competing number is its remainder
  own : (a : ℕ) → a < 2 ^ s.table.k → number_of s a % 2 ^ s.table.k ≡ a
  own = (wide s won.formed).own

  other : (a : ℕ) → competes s a ≡ true → a ≢ w → number_of s a ≢ number_of s w
  other a t d same =
      let waits = competitor_waits s a t in
      let small = card_small s won.formed a (waiting_below s won.formed a waits) (waiting_card s won.formed a waits) in
      d (sym (own a small) ∙ ap (λ (x : ℕ). x % 2 ^ s.table.k) same ∙ own w won.small)

  equal_more : (n : ℕ) → equal_to (number_of s w) (competing_below s (suc n))
      ≡ equal_to (number_of s w) (competing_below s n) + cond (competes s n) (cond (eqb (number_of s n) (number_of s w)) 1 0) 0
  unfolding competing_below
  equal_more n = rw (equal_append (number_of s w) (competing_below s n) (cond (competes s n) (number_of s n ∷ []) [])) (go (competes s n))
    where
      go : (b : Bool) → equal_to (number_of s w) (competing_below s n) + equal_to (number_of s w) (cond b (number_of s n ∷ []) [])
          ≡ equal_to (number_of s w) (competing_below s n) + cond b (cond (eqb (number_of s n) (number_of s w)) 1 0) 0
      go true = rw (equal_one (number_of s w) (number_of s n))
      go false = rw (equal_none (number_of s w))

  none_below : (n : ℕ) → n ≤ w → equal_to (number_of s w) (competing_below s n) ≡ 0
  unfolding competing_below
  none_below zero l = equal_none (number_of s w)
  none_below (suc n) l = rw (equal_more n, none_below n (omega arith)) (go (competes s n) refl)
    where
      go : (b : Bool) → competes s n ≡ b → ◌≡◌ {A = ℕ} (0 + cond b (cond (eqb (number_of s n) (number_of s w)) 1 0) 0) 0
      go true t = rw (ne_eqb (number_of s n) (number_of s w) (other n t (λ e. omega (arith, e))))
      go false t = refl

  one_below : (n : ℕ) → w < n → equal_to (number_of s w) (competing_below s n) ≡ 1
  one_below zero l = absurd (not-suc-le-zero l)
  one_below (suc n) l = rw (equal_more n) (go (eq-or-lt_of_le (le_of_suc-le-suc l)) (one_below n))
    where
      later : (b : Bool) → competes s n ≡ b → w < n → ◌≡◌ {A = ℕ} (1 + cond b (cond (eqb (number_of s n) (number_of s w)) 1 0) 0) 1
      later true t m = rw (ne_eqb (number_of s n) (number_of s w) (other n t (λ e. omega (arith, e))))
      later false t m = refl

      go : (w ≡ n) ⊎ (w < n) → (w < n → equal_to (number_of s w) (competing_below s n) ≡ 1)
          → equal_to (number_of s w) (competing_below s n) + cond (competes s n) (cond (eqb (number_of s n) (number_of s w)) 1 0) 0 ≡ 1
      go (inl p) before = rw (← p, none_below w (omega arith), won.competing, eq-eqb (number_of s w) (number_of s w) refl)
      go (inr m) before = rw (before m) (later (competes s n) refl m)

  -- one competing card has the number that the lines settle to
  pub matched_once : (settling_of s).matches ≡ 1
  unfolding value_now
  matched_once =
      let is = settles s won.formed in
      ap (λ (t : Settled). t.matches) is
      ∙ ap (λ (x : ℕ). equal_to x (competing s)) (sym (ap (λ (t : Settled). t.lines) is) ∙ won.shown)
      ∙ one_below 64 won.below

-- ---- the figure of an event

pub record Shows (o : Outcome) : Type 0 where
  pub none : o.winner ≡ 0 → o.matches ≡ 0
  pub one : o.winner ≢ 0 → o.matches ≡ 1

either : (v : Bool) {x y : Outcome} → (v ≡ true → Shows x) → (v ≡ false → Shows y) → Shows (cond v x y)
either true p q = p refl
either false p q = q refl

shows_none : (s : RackState) (n : ℕ) → Shows (answered s n)
shows_none s n = record { none = λ _. refl; one = λ some. absurd (some refl) }

shows_by : (n : ℕ) (s : RackState) (o : Outcome) → (n ≡ 0 → Shows o) → Shows (answered_by n s o)
unfolding answered_by
shows_by n s o done = either (eqb n 0) (λ e. done (eqb-true n 0 e)) (λ _. shows_none s n)

arbitrated_shows : (s : RackState) → MayArbitrate (well_formed s) s → Shows (arbitrated s)
unfolding won_by
arbitrated_shows s may =
    let some = some_wait s (formed_of s may.told) may.some in
    let named = won s may.told some in
    rw (arbitrated_won s may.told some)
    (either (some_loser_full s (winner_of s)) (λ _. shows_none s 16)
    (λ _. record { none = λ zero. absurd (omega (arith, zero, named.positive)); one = λ _. matched_once s (winner_of s) named }))

pub arbitration_shows : (s : RackState) → Shows (arbitrate_of s)
arbitration_shows s =
    shows_by (arbitrate_refusal (well_formed s) s) s (arbitrated s) (λ none. arbitrated_shows s (may_arbitrate (well_formed s) s none))

pub event_shows : (s : RackState) (letter number : ℕ) → Shows (event_of s letter number)
unfolding event_of
event_shows s letter number =
    either (eqb letter 81) (λ _. shows_by (request_refusal (well_formed s) s number) s _ (λ _. shows_none _ 0)) (λ _.
    either (eqb letter 65) (λ _. arbitration_shows s) (λ _.
    either (eqb letter 82) (λ _. shows_by (release_refusal (well_formed s) s number) s _ (λ _. shows_none _ 0)) (λ _.
    shows_none s 18)))
