-- What the settling entry for C answers and leaves in the lent buffer, for every input. Assumes nothing.
use Rattle.std.specs.Prelude.{ℕ, zero, suc, ◌+◌, ◌*◌, ◌/◌, List, ◌++◌, ◌≡◌, length, drop}
use Rattle.laptop.specs.Words.{words, bytes}
use Rattle.lines.specs.Settle.{equal_to, refusal}
use Rattle.lines.specs.Settling.{stages, settled, trail}

-- t plus 256 times how many numbers equal the settled lines, or 100 plus the refusal
abbrev pub code_or : ℕ → ℕ → List ℕ → ℕ → ℕ
code_or zero m numbers start = stages m numbers start + 256 * equal_to (settled m numbers start) numbers
code_or (suc refused) m numbers start = 100 + suc refused

-- the lines after stages 0 to t, two bytes for each, and the rest as it was; a refusal writes nothing
abbrev pub bytes_or : ℕ → ℕ → List ℕ → ℕ → List ℕ → List ℕ
bytes_or zero m numbers start buffer = bytes (trail m numbers start (stages m numbers start)) ++ drop (2 * suc (stages m numbers start)) buffer
bytes_or (suc refused) m numbers start buffer = buffer

pub record SettlesBytes (m : ℕ) (numbers : List ℕ) (start : ℕ) (buffer : List ℕ) (r : ℕ) (last : List ℕ) : Type 0 where
  pub result : r ≡ code_or (refusal m (words numbers) start (length buffer / 2)) m (words numbers) start
  pub left : last ≡ bytes_or (refusal m (words numbers) start (length buffer / 2)) m (words numbers) start buffer
