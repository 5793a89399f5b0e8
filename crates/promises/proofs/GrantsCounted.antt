-- A history has a wait of a card for each of its grants in the run. Assumes nothing.
use Prim.Native.Nat.{ℕ, ◌+◌}
use native.Mathlib.Omega.{arith}
use mathlib.Core.Bool.{Bool, true, false, cond}
use mathlib.Core.List.{List, [], ◌∷◌}
use mathlib.Core.Logic.{◌⊎◌, inl, inr, ◌≢◌}
use mathlib.Core.Path.{◌≡◌, refl, sym, ap}
use lib.Dec.{eqb, ltb}
use lib.ListN.{length}
use borrow.Author.Tests.{eqb-true, eqb-false, eq-eqb, ne_eqb}
use Rattle.arbiter.proofs.Told.{refused_keeps}
use Rattle.arbiter.specs.Arbitrate.{arbitrate_of, event_of}
use Rattle.arbiter.specs.Events.{answered, request_of, release_of}
use Rattle.arbiter.specs.State.{fresh_of}
use Rattle.arbiter.specs.Outcome.{Outcome}
use Rattle.state.specs.declared.RackState.{RackState}
use Rattle.cards.proofs.Below.{same_or_not}
use Rattle.cards.specs.declared.Table.{Table}
use Rattle.promises.proofs.Turns.{hit, times-grants}
use Rattle.promises.specs.Runs.{Event, outcome_of, next, grants, times}
use Rattle.tally.proofs.Effects.{Effect, is_granted, asked_effect, granted_effect, released_effect}
use Rattle.tally.specs.History.{Happening, asked, granted, released, History, waits_of}
use Rattle.tally.specs.Ledger.{happened, past_after, history_from, history_of}

-- what a done event was, by which letter it has
unfoldable what : Bool → Bool → Bool → ℕ → ℕ → Happening
what q a r number winner = cond q (asked number) (cond a (granted winner) (cond r (released number) (released number)))

-- it has a winner exactly if the history has it as a grant
grant_seen : (s : RackState) (x : Happening) (o : Outcome) → Effect s x o → o.answer ≡ 0 → ltb 0 o.winner ≡ is_granted x
grant_seen s x o effect done = rw (eq-eqb _ 0 done) at effect.grant

as_granted : (s : RackState) (letter number : ℕ) → (event_of s letter number).answer ≡ 0
    → ltb 0 (event_of s letter number).winner ≡ is_granted (happened letter number (event_of s letter number))
unfolding event_of
as_granted s letter number = by_letter_lem (eqb letter 81) (eqb letter 65) (eqb letter 82)
  where
    event : Bool → Bool → Bool → Outcome
    event q a r = cond q (request_of s number) (cond a (arbitrate_of s) (cond r (release_of s number) (answered s 18)))

    was : Bool → Bool → Bool → Outcome → Happening
    was q a r o = cond q (asked number) (cond a (granted o.winner) (cond r (released number) (released number)))

    by_letter_lem : (q a r : Bool) → (event q a r).answer ≡ 0 → ltb 0 (event q a r).winner ≡ is_granted (was q a r (event q a r))
    by_letter_lem true a r done = grant_seen s (asked number) (request_of s number) (asked_effect s number done) done
    by_letter_lem false true r done = grant_seen s (granted (arbitrate_of s).winner) (arbitrate_of s) (granted_effect s done) done
    by_letter_lem false false true done = grant_seen s (released number) (release_of s number) (released_effect s number done) done
    by_letter_lem false false false done = let none : ◌≡◌ {A = ℕ} 18 0 = done in absurd (omega arith)

module _ (b : ℕ) (past : History) where
  abbrev count : History → ℕ
  count h = length (waits_of b h)

  abbrev one : ℕ → ℕ
  one w = times b (cond (ltb 0 w) (w ∷ []) [])

  to_winner : (w : ℕ) → true ≡ ltb 0 w → count (granted w ∷ past) ≡ count past + one w
  unfolding waits_of times
  to_winner w e = rw (← e) (go (same_or_not b w))
    where
      go : (b ≡ w) ⊎ (b ≢ w) → count (granted w ∷ past) ≡ count past + (cond (eqb w b) 1 0 + 0)
      go (inl p) = rw (eq-eqb b w p, eq-eqb w b (sym p)) (omega arith)
      go (inr n) = rw (ne_eqb b w n, ne_eqb w b (λ p. n (sym p))) (omega arith)

  wait_more : (q a r : Bool) (number w : ℕ) → ltb 0 w ≡ is_granted (what q a r number w) → count (what q a r number w ∷ past) ≡ count past + one w
  unfolding what is_granted waits_of times
  wait_more true a r number w e = rw e (omega arith)
  wait_more false true r number w e = to_winner w (sym e)
  wait_more false false true number w e = rw e (omega arith)
  wait_more false false false number w e = rw e (omega arith)

  one_event : (s : RackState) (e : Event) → count (past_after e.letter e.number (outcome_of s e) past) ≡ count past + hit b s e
  unfolding hit what times
  one_event s e = by_answer (eqb (outcome_of s e).answer 0) refl
    where
      by_answer : (v : Bool) → eqb (outcome_of s e).answer 0 ≡ v
          → count (cond v (happened e.letter e.number (outcome_of s e) ∷ past) past) ≡ count past + one (outcome_of s e).winner
      by_answer true z =
          wait_more (eqb e.letter 81) (eqb e.letter 65) (eqb e.letter 82) e.number (outcome_of s e).winner
          (as_granted s e.letter e.number (eqb-true _ 0 z))
      by_answer false z =
          let none : (outcome_of s e).winner ≡ 0 = ap (λ (x : Outcome). x.winner) (refused_keeps s e.letter e.number (eqb-false _ 0 z)) in
          rw none (omega arith)

waits-grants : (b : ℕ) (past : History) (s : RackState) (es : List Event)
    → length (waits_of b (history_from past s es)) ≡ length (waits_of b past) + times b (grants s es)
unfolding history_from grants times
waits-grants b past s [] = omega arith
waits-grants b past s (e ∷ es) =
    rw (times-grants b s e es)
    (omega (arith, one_event b past s e, waits-grants b (past_after e.letter e.number (outcome_of s e) past) (next s e) es))

pub waits_are_grants : (b : ℕ) (t : Table) (es : List Event) → length (waits_of b (history_of (fresh_of t) es)) ≡ times b (grants (fresh_of t) es)
unfolding waits_of
waits_are_grants b t es = omega (arith, waits-grants b [] (fresh_of t) es)
