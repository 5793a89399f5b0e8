-- Numbers as pairs of bytes: how many bytes they take, and one number more behind those that are written. Assumes nothing.
use Prim.Native.Nat.{ℕ, suc, ◌+◌, ◌*◌, ◌/◌, ◌%◌, ◌≤◌}
use native.Mathlib.Omega.{arith}
use mathlib.Core.List.{List, [], ◌∷◌, ◌++◌}
use mathlib.Core.Path.{◌≡◌, refl, ap}
use lib.ListN.{length, drop}
use Rattle.laptop.specs.Words.{bytes}
use Rattle.lines.specs.Words.{put_word}

pub bytes-length : (xs : List ℕ) → length (bytes xs) ≡ 2 * length xs
unfolding bytes
bytes-length [] = refl
bytes-length (x ∷ xs) = omega (arith, bytes-length xs)

even : (i : ℕ) → 2 * suc i ≡ suc (suc (2 * i))
even i = omega arith

odd : (i : ℕ) → 2 * suc i + 1 ≡ suc (suc (2 * i + 1))
odd i = omega arith

pub put_next : (xs buffer : List ℕ) (x : ℕ) → 2 * suc (length xs) ≤ length buffer
    → put_word (bytes xs ++ drop (2 * length xs) buffer) (length xs) x ≡ bytes (xs ++ (x ∷ [])) ++ drop (2 * suc (length xs)) buffer
unfolding bytes
put_next xs [] x room = absurd (omega arith)
put_next xs (a ∷ []) x room = absurd (omega arith)
put_next [] (a ∷ b ∷ rest) x room = refl
put_next (y ∷ ys) (a ∷ b ∷ rest) x room =
    rw (odd (length ys), even (length ys), even (suc (length ys)))
    (ap (λ (behind : List ℕ). (y % 256) ∷ (y / 256 % 256) ∷ behind) (put_next ys rest x (omega arith)))
