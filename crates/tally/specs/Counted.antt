-- What a counted event tells: the next tally with the event's outcome, or the refusal, and then the tally and the state are as they were given.
-- Assumes nothing.
use Rattle.std.specs.Prelude.{Result, Ok, Err}
use Rattle.arbiter.specs.Outcome.{Outcome, as_outcome}
use Rattle.rack.specs.Done.{outcome_in}
use Rattle.refusals.specs.declared.Refusal.{Refusal}
use Rattle.state.specs.declared.RackState.{RackState}
use Rattle.tally.specs.declared.Counted.{Counted as Done}
use Rattle.tally.specs.declared.Tally.{Tally}

pub record Counted : Type 0 where
  pub tally : Tally
  pub outcome : Outcome

abbrev pub as_counted : Tally → RackState → Result Done Refusal → Counted
as_counted t s (Ok c) = record { tally = c.tally; outcome = outcome_in s (Ok c.done) }
as_counted t s (Err refusal) = record { tally = t; outcome = as_outcome s (Err refusal) }
