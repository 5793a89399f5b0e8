-- Who is next: the answer and the card, which is 0 where the answer refuses. Assumes nothing.
use Rattle.std.specs.Prelude.{ℕ, Result, Ok, Err}
use Rattle.refusals.specs.Numbers.{number_of}
use Rattle.refusals.specs.declared.Refusal.{Refusal}

pub record NextWinner : Type 0 where
  pub answer : ℕ
  pub winner : ℕ

abbrev pub as_next_winner : Result ℕ Refusal → NextWinner
as_next_winner (Ok card) = record { answer = 0; winner = card }
as_next_winner (Err refusal) = record { answer = number_of refusal; winner = 0 }
