-- What an event tells that is counted where the tally was lent: its outcome, and the next square. Assumes nothing.
use Rattle.std.specs.Prelude.{List, ℕ}
use Rattle.arbiter.specs.Outcome.{Outcome}
use Rattle.rack.specs.Done.{outcome_in}
use Rattle.state.specs.declared.RackState.{RackState}
use Rattle.tally.specs.declared.Tallied.{Tallied as Told}

pub record Tallied : Type 0 where
  pub outcome : Outcome
  pub square : List (List ℕ)

abbrev pub as_tallied : RackState → Told → Tallied
as_tallied s told = record { outcome = outcome_in s told.event; square = told.square }
