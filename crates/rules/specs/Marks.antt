-- The marks of the cards, by arbitration number. Assumes nothing.
use Rattle.std.specs.Prelude.{ℕ, Bool, false, List, get_or}

-- the card of that number is marked: it waits, is in the batch, or is inhibited, by the list
abbrev pub is_in : List Bool → ℕ → Bool
is_in cards a = get_or cards a false

-- the marks of the cards: who waits, the waiting counts, the batch, and who is inhibited
pub record Marks : Type 0 where
  pub waiting : List Bool
  pub counts : List ℕ
  pub batch : List Bool
  pub inhibited : List Bool

abbrev pub marks : List Bool → List ℕ → List Bool → List Bool → Marks
marks waiting counts batch inhibited = record { waiting = waiting; counts = counts; batch = batch; inhibited = inhibited }
