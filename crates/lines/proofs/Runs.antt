-- The interval-number by the width: a line more above brings nothing, and a bit more below either goes on with the last run or begins another.
-- Assumes nothing.
use Prim.Native.Nat.{ℕ, zero, suc, ◌+◌, ◌/◌, ◌%◌, ◌^◌, ◌<◌}
use native.Mathlib.Nat.{div-eq_of_lt, eq-zero-or-pos, pow-suc}
use native.Mathlib.Omega.{arith}
use mathlib.Core.Bool.{Bool, cond}
use mathlib.Core.List.{List, [], ◌∷◌, ◌++◌}
use mathlib.Core.Logic.{⊎_elim}
use mathlib.Core.Path.{◌≡◌, refl, ap, ap₂, ◌∙◌}
use lib.Dec.{eqb, eqb-zero-suc}
use lib.Pow.{pow_pos}
use borrow.Author.Tests.{ne_eqb}
use Rattle.lines.proofs.Reading.{line_zero, line_suc}
use Rattle.lines.specs.Intervals.{bits, from_first_one, runs, interval_number}

-- the examples of document 002: 001011, 0000 and 10101010
pub known_intervals : (interval_number 6 11 ≡ 3) × (interval_number 4 0 ≡ 0) × (interval_number 8 170 ≡ 8)
unfolding interval_number bits from_first_one runs
known_intervals = (refl, refl, refl)

-- it is the number's own: a line more above brings a leading zero
pub intervals_wider : (m x : ℕ) → x < 2 ^ m → interval_number (suc m) x ≡ interval_number m x
unfolding interval_number bits from_first_one
intervals_wider m x fits = rw (div-eq_of_lt fits)

-- 0 has none
pub intervals_zero : (m : ℕ) → interval_number m 0 ≡ 0
unfolding interval_number bits from_first_one runs
intervals_zero zero = refl
intervals_zero (suc m) = intervals_wider m 0 (pow_pos m) ∙ intervals_zero m

-- the bits of a number are those of its half and its lowest
bits_half : (m x : ℕ) → bits (suc m) x ≡ bits m (x / 2) ++ (x % 2 ∷ [])
unfolding bits
bits_half zero x = ap (λ (bit : ℕ). bit ∷ []) (line_zero x)
bits_half (suc m) x = ap₂ ◌∷◌ (line_suc m x) (bits_half m x)

-- the last of some bits, or the one above them where there are none
last_below : ℕ → List ℕ → ℕ
last_below above [] = above
last_below above (bit ∷ lower) = last_below bit lower

last_low : (above : ℕ) (upper : List ℕ) (bit : ℕ) → last_below above (upper ++ (bit ∷ [])) ≡ bit
unfolding last_below
last_low above [] bit = refl
last_low above (other ∷ upper) bit = last_low other upper bit

last_bit : (m x : ℕ) → x < 2 ^ m → last_below 0 (bits m x) ≡ x % 2
unfolding last_below bits
last_bit zero x fits = omega arith
last_bit (suc m) x fits = ap (last_below 0) (bits_half m x) ∙ last_low 0 (bits m (x / 2)) (x % 2)

-- one more bit below a run
runs_more : (top : ℕ) (upper : List ℕ) (bit : ℕ)
    → runs (top ∷ (upper ++ (bit ∷ []))) ≡ runs (top ∷ upper) + cond (eqb (last_below top upper) bit) 0 1
unfolding last_below runs
runs_more top [] bit = omega arith
runs_more top (other ∷ upper) bit = omega (arith, runs_more other upper bit)

-- and below leading zeros
counted_more : (upper : List ℕ) (bit : ℕ)
    → runs (from_first_one (upper ++ (bit ∷ []))) ≡ runs (from_first_one upper) + cond (eqb (last_below 0 upper) bit) 0 1
unfolding last_below from_first_one runs
counted_more [] zero = refl
counted_more [] (suc bit) = rw (eqb-zero-suc bit)
counted_more (zero ∷ upper) bit = counted_more upper bit
counted_more (suc top ∷ upper) bit = runs_more (suc top) upper bit

pub intervals_more : (m x : ℕ) → x < 2 ^ suc m
    → interval_number (suc m) x ≡ interval_number m (x / 2) + cond (eqb (x / 2 % 2) (x % 2)) 0 1
unfolding interval_number
intervals_more m x fits =
    rw (bits_half m x, ← last_bit m (x / 2) (omega (arith, pow-suc 2 m))) (counted_more (bits m (x / 2)) (x % 2))

-- only 0 has none
pub intervals_none : (m x : ℕ) → x < 2 ^ m → interval_number m x ≡ 0 → x ≡ 0
intervals_none zero x fits none = omega arith
intervals_none (suc m) x fits none =
    let more = intervals_more m x fits in
    let half : x / 2 ≡ 0 = intervals_none m (x / 2) (omega (arith, pow-suc 2 m)) (omega arith) in
    ⊎_elim
    (λ (low : x % 2 ≡ 0). omega arith)
    (λ (low : 0 < x % 2). absurd (omega (arith, more, ap (λ (b : Bool). cond {A = ℕ} b 0 1) (ne_eqb (x / 2 % 2) (x % 2) (λ same. omega arith)))))
    (eq-zero-or-pos (x % 2))
