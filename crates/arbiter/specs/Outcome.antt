-- What an event makes of a state: the next state, the answer, and of a grant the winner, the settled lines, the stages and how many competing numbers
-- equal the lines. Assumes nothing.
use Rattle.std.specs.Prelude.{ℕ, Result, Ok, Err}
use Rattle.arbiter.specs.declared.Reported.{Reported}
use Rattle.refusals.specs.Numbers.{number_of}
use Rattle.refusals.specs.declared.Refusal.{Refusal}
use Rattle.state.specs.declared.RackState.{RackState}

pub record Outcome : Type 0 where
  pub state : RackState
  pub answer : ℕ
  pub winner : ℕ
  pub lines : ℕ
  pub stages : ℕ
  pub matches : ℕ

-- what an event told and the state that it left: a refusal reports winner, lines, stages and matches 0
abbrev pub as_outcome : RackState → Result Reported Refusal → Outcome
as_outcome s (Ok r) = record { state = s; answer = 0; winner = r.winner; lines = r.lines; stages = r.stages; matches = r.matches }
as_outcome s (Err refusal) = record { state = s; answer = number_of refusal; winner = 0; lines = 0; stages = 0; matches = 0 }
