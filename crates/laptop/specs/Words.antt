-- Numbers of 16 bits as bytes, two for each, low byte first. The numbers that bytes hold are `words`, of the crate lines. Assumes nothing.
use Rattle.std.specs.Prelude.{ℕ, ◌/◌, ◌%◌, List, [], ◌∷◌}
pub use Rattle.lines.specs.Words.{words}

-- the bytes that hold numbers
unfoldable pub bytes : List ℕ → List ℕ
bytes [] = []
bytes (x ∷ xs) = (x % 256) ∷ (x / 256 % 256) ∷ bytes xs
