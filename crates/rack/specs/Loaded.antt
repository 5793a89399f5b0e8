-- What a load answers: 0 with the fresh state of the file's table, or the number of its refusal with the all-zero state, bus free. Assumes nothing.
use Rattle.std.specs.Prelude.{ℕ, Result, Ok, Err}
use Rattle.arbiter.specs.State.{fresh_of}
use Rattle.cardfile.specs.LoadedTable.{zero_table}
use Rattle.refusals.specs.Numbers.{number_of}
use Rattle.refusals.specs.declared.Refusal.{Refusal}
use Rattle.state.specs.declared.RackState.{RackState}

pub record Loaded : Type 0 where
  pub answer : ℕ
  pub state : RackState

abbrev pub as_loaded : Result RackState Refusal → Loaded
as_loaded (Ok s) = record { answer = 0; state = s }
as_loaded (Err refusal) = record { answer = number_of refusal; state = fresh_of zero_table }
