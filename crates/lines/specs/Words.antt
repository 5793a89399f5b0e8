-- Numbers of 16 bits as bytes, two for each, low byte first. Assumes nothing.
use Rattle.std.specs.Prelude.{ℕ, zero, suc, ◌+◌, ◌*◌, ◌/◌, ◌%◌, ◌^◌, ◌<◌, ◌≡◌, List, [], ◌∷◌, length, set}
use Rattle.std.proofs.Common.{ap, arith}

-- the numbers that bytes hold; an odd last byte is passed over
unfoldable pub words : List ℕ → List ℕ
words [] = []
words (low ∷ []) = []
words (low ∷ high ∷ rest) = (low + 256 * high) ∷ words rest

-- bytes that hold x as number i
abbrev pub put_word : List ℕ → ℕ → ℕ → List ℕ
put_word bytes i x = set (set bytes (2 * i) (x % 256)) (2 * i + 1) (x / 256 % 256)

even : (i : ℕ) → 2 * suc i ≡ suc (suc (2 * i))
even i = omega arith

odd : (i : ℕ) → 2 * suc i + 1 ≡ suc (suc (2 * i + 1))
odd i = omega arith

-- a number that was put is read back
pub words_put : (bytes : List ℕ) (i x : ℕ) → x < 2 ^ 16 → i < length (words bytes) → words (put_word bytes i x) ≡ set (words bytes) i x
unfolding words
words_put [] i x fits below = absurd (omega arith)
words_put (low ∷ []) i x fits below = absurd (omega arith)
words_put (low ∷ high ∷ rest) zero x fits below = ap (λ (number : ℕ). number ∷ words rest) (omega arith)
words_put (low ∷ high ∷ rest) (suc i) x fits below =
    rw (odd i, even i) (ap (λ (others : List ℕ). (low + 256 * high) ∷ others) (words_put rest i x fits (omega arith)))
