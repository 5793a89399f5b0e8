-- What a settling answers: 0 with the settled lines, the stages t and how many numbers equal the lines, or the number of its refusal. Assumes nothing.
use Rattle.std.specs.Prelude.{ℕ, Result, Ok, Err}
use Rattle.lines.specs.declared.Settling.{Settling}
use Rattle.refusals.specs.Numbers.{number_of}
use Rattle.refusals.specs.declared.Refusal.{Refusal}

pub record Settled : Type 0 where
  pub answer : ℕ
  pub lines : ℕ
  pub stages : ℕ
  pub matches : ℕ

-- a refused settling returns lines 0, stages 0 and no match
abbrev pub as_settled : Result Settling Refusal → Settled
as_settled (Ok s) = record { answer = 0; lines = s.lines; stages = s.stages; matches = s.matches }
as_settled (Err refusal) = record { answer = number_of refusal; lines = 0; stages = 0; matches = 0 }
