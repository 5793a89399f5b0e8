-- Numbers of 16 bits as pairs of bytes: how many there are, and the number at each place. Assumes nothing.
use Prim.Native.Nat.{ℕ, zero, suc, ◌+◌, ◌*◌, ◌/◌, ◌<◌}
use native.Mathlib.Omega.{arith}
use mathlib.Core.List.{List, [], ◌∷◌}
use mathlib.Core.Path.{◌≡◌, refl}
use lib.ListN.{length, get_or, length-set}
use Rattle.lines.specs.Words.{words}

even : (i : ℕ) → 2 * suc i ≡ suc (suc (2 * i))
even i = omega arith

odd : (i : ℕ) → 2 * suc i + 1 ≡ suc (suc (2 * i + 1))
odd i = omega arith

pub words-length : (s : List ℕ) → length (words s) ≡ length s / 2
unfolding words
words-length [] = refl
words-length (low ∷ []) = refl
words-length (low ∷ high ∷ rest) = omega (arith, words-length rest)

pub words_at : (s : List ℕ) (i : ℕ) → i < length s / 2 → get_or (words s) i 0 ≡ get_or s (2 * i) 0 + 256 * get_or s (2 * i + 1) 0
unfolding words
words_at [] i less = absurd (omega arith)
words_at (low ∷ []) i less = absurd (omega arith)
words_at (low ∷ high ∷ rest) zero less = refl
words_at (low ∷ high ∷ rest) (suc i) less = rw (odd i, even i) (words_at rest i (omega arith))

-- what the code that goes by pairs has to know
pub ruleset pairs = (words-length, words_at, length-set)
