-- What an event by value tells: the next state with what it reports, or the refusal, and then the state is as it was given. Assumes nothing.
use Rattle.std.specs.Prelude.{Result, Ok, Err}
use Rattle.arbiter.specs.Outcome.{Outcome, as_outcome}
use Rattle.rack.specs.declared.Done.{Done}
use Rattle.refusals.specs.declared.Refusal.{Refusal}
use Rattle.state.specs.declared.RackState.{RackState}

abbrev pub outcome_in : RackState → Result Done Refusal → Outcome
outcome_in s (Ok done) = as_outcome done.state (Ok done.reported)
outcome_in s (Err refusal) = as_outcome s (Err refusal)
