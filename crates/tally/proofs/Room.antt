-- A counted event that is done leaves room in the square for what it adds, so that a caller by value gets that square. Assumes nothing.
use Prim.Native.Nat.{ℕ, ◌<◌}
use native.Mathlib.Omega.{arith}
use mathlib.Core.Bool.{Bool, true, false, ◌&&◌, false≢true}
use mathlib.Core.Logic.{◌≢◌}
use mathlib.Core.Path.{◌≡◌, refl}
use Rattle.std.proofs.Common.{Result, Ok, Err}
use lib.Dec.{eqb, ltb}
use borrow.Author.Tests.{eqb-true}
use Rattle.arbiter.proofs.Tests.{and_right}
use Rattle.arbiter.proofs.Told.{winner_below}
use Rattle.arbiter.specs.Arbitrate.{event_of}
use Rattle.arbiter.specs.Events.{answered}
use Rattle.arbiter.specs.Outcome.{Outcome}
use Rattle.state.specs.declared.RackState.{RackState}
use Rattle.tally.proofs.Laws.{cond_same, rows_of, rows_room, counted_on_lem, counts}
use Rattle.rack.specs.Done.{outcome_in}
use Rattle.rack.specs.declared.Done.{Done}
use Rattle.refusals.proofs.Laws.{some_number}
use Rattle.refusals.specs.declared.Refusal.{Refusal}
use Rattle.tally.specs.Room.{SquareRoom, StandsFor, counted_on, square_for}
use Rattle.tally.specs.Tally.{Square, counted_answer, counted_by, counted_of, square_after}
use Rattle.tally.specs.declared.Tally.{Tally}

pub counted_room : (t : Tally) (q : Square) (s : RackState) (letter a : ℕ) → SquareRoom q (counted_of t q s letter a).outcome
unfolding counted_of counted_by
counted_room t q s letter a = by_case (eqb n 0) refl
  where
    n : ℕ
    n = counted_answer t q (event_of s letter a).answer

    below : (event_of s letter a).winner < 64
    below = winner_below s letter a

    none_won : (eqb n 0 && ltb 0 0) ≡ true → false ≡ true
    none_won g = and_right (eqb n 0) _ g

    by_case : (v : Bool) → eqb n 0 ≡ v → SquareRoom q (counted_by n t s letter a (event_of s letter a)).outcome
    by_case true e =
        let known = counts t q _ (eqb-true n 0 e) in
        rw e (record { card = below; room = λ _. rows_room t.events q known.below (rows_of t q known.good) _ below })
    by_case false e = rw e (record { card = omega arith; room = λ g. absurd (false≢true (none_won g)) })

-- the square that a caller by value gets is the square of the counted event
pub square_for_lem : (t : Tally) (q : Square) (s : RackState) (letter a : ℕ)
    → square_for t.events q (counted_of t q s letter a).outcome ≡ square_after q (counted_of t q s letter a).outcome
unfolding counted_of counted_by square_for square_after
square_for_lem t q s letter a = by_case (eqb n 0) refl
  where
    n : ℕ
    n = counted_answer t q (event_of s letter a).answer

    below : (event_of s letter a).winner < 64
    below = winner_below s letter a

    by_case : (v : Bool) → eqb n 0 ≡ v
        → square_for t.events q (counted_by n t s letter a (event_of s letter a)).outcome
        ≡ square_after q (counted_by n t s letter a (event_of s letter a)).outcome
    by_case true e =
        let known = counts t q _ (eqb-true n 0 e) in
        rw (e, counted_on_lem t.events q (event_of s letter a) known.below below (rows_of t q known.good))
    by_case false e = rw (e, e) (cond_same (counted_on t.events q (answered s n)))

-- No outcome is left out: a done one is that of an event, and for a refused one any refusal stands.
pub done_stands : (E : Type 0) (o : Outcome) → o.answer ≡ 0
    → StandsFor {E = E} (Ok (record { state = o.state; reported = record { winner = o.winner; lines = o.lines; stages = o.stages; matches = o.matches } })) o
done_stands E o done = λ i. record { state = o.state; answer = done i; winner = o.winner; lines = o.lines; stages = o.stages; matches = o.matches }

pub refused_stands : {E : Type 0} (why : E) (o : Outcome) → o.answer ≢ 0 → StandsFor (Err why) o
refused_stands why o refuses = refuses

-- and what an event by value tells is one of them
pub told_stands : (s : RackState) (event : Result Done Refusal) → StandsFor event (outcome_in s event)
told_stands s (Ok done) = refl
told_stands s (Err refusal) = λ none. omega (arith, none, some_number refusal)
