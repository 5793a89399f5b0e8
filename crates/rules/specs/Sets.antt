-- The batch and the inhibited cards: when the two sets are made anew. Assumes nothing.
use Rattle.std.specs.Prelude.{ℕ, Bool, false, cond, ◌&&◌, List, replicate}
use Rattle.rules.specs.Rules.{has_batch, inhibits}

-- under rule 3, where no card of the batch waits, all waiting cards become the batch
abbrev pub batch_anew : ℕ → Bool → List Bool → List Bool → List Bool
batch_anew rule anew waiting batch = cond (anew && has_batch rule) waiting batch

-- under rule 4, where all waiting cards are inhibited, every inhibition is cleared
abbrev pub inhibited_anew : ℕ → Bool → List Bool → List Bool
inhibited_anew rule anew inhibited = cond (anew && inhibits rule) (replicate 64 false) inhibited
