-- The interval-number of document 002 (definition 4): how many runs of equal bits a number of m bits has, leading zeros left out. That of 001011
-- is 3, that of 0000 is 0, and that of 10101010 is 8. Assumes nothing.
use Rattle.std.specs.Prelude.{ℕ, zero, suc, ◌+◌, cond, List, [], ◌∷◌, eqb}
use Rattle.lines.specs.Line.{line}

-- the bits of a number, from line m-1 down to line 0
unfoldable pub bits : ℕ → ℕ → List ℕ
bits zero x = []
bits (suc m) x = line m x ∷ bits m x

-- leading zeros left out
unfoldable pub from_first_one : List ℕ → List ℕ
from_first_one [] = []
from_first_one (zero ∷ lower) = from_first_one lower
from_first_one (suc bit ∷ lower) = suc bit ∷ lower

-- how many runs of equal bits: the last bit ends one, and so does each bit that differs from the next
unfoldable pub runs : List ℕ → ℕ
runs [] = 0
runs (bit ∷ []) = 1
runs (bit ∷ next ∷ lower) = cond (eqb bit next) 0 1 + runs (next ∷ lower)

unfoldable pub interval_number : ℕ → ℕ → ℕ
interval_number m x = runs (from_first_one (bits m x))
