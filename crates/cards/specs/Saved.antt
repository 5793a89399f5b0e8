-- What a save answers: 0 with how many bytes it wrote, or the number of its refusal with length 0. Assumes nothing.
use Rattle.std.specs.Prelude.{ℕ, Result, Ok, Err}
use Rattle.refusals.specs.Numbers.{number_of}
use Rattle.refusals.specs.declared.Refusal.{Refusal}

pub record Saved : Type 0 where
  pub answer : ℕ
  pub len : ℕ

abbrev pub as_saved : Result ℕ Refusal → Saved
as_saved (Ok len) = record { answer = 0; len = len }
as_saved (Err refusal) = record { answer = number_of refusal; len = 0 }
