-- Sums over a list of waits: the square of a sum is at most the count times the sum of squares, so that no variance is negative. Assumes nothing.
use Prim.Native.Nat.{ℕ, zero, suc, ◌+◌, ◌-◌, ◌*◌, ◌≤◌, ◌<◌}
use native.Mathlib.Nat.{mul-add, add-mul, mul_comm, mul_assoc, mul-suc, zero-mul, suc-mul, mul-mul-mul_comm, le_of_mul-le-mul_left, zero-lt-suc, one-mul}
use native.Mathlib.Omega.{arith}
use mathlib.Core.List.{List, [], ◌∷◌}
use mathlib.Core.Logic.{◌⊎◌, inl, inr}
use mathlib.Core.Path.{◌≡◌, sym, subst, ap, ◌∙◌}
use lib.ListN.{length}
use Rattle.cards.proofs.Below.{le_or_lt}
use Rattle.tally.specs.History.{total, total_squares}

square_of_sum : (a b : ℕ) → (a + b) * (a + b) ≡ a * a + (a * b + a * b) + b * b
square_of_sum a b = simp (mul-add, add-mul) (omega (arith, mul_comm a b))

-- twice a product is at most the sum of the squares
twice_ordered : (a d : ℕ) → a * (a + d) + a * (a + d) ≤ a * a + (a + d) * (a + d)
twice_ordered a d = simp (mul-add, add-mul) (omega (arith, mul_comm a d))

twice_from : (a b : ℕ) → a ≤ b → a * b + a * b ≤ a * a + b * b
twice_from a b h =
    let e : a + (b - a) ≡ b = omega arith in
    subst (λ (y : ℕ). a * y + a * y ≤ a * a + y * y) e (twice_ordered a (b - a))

twice : (a b : ℕ) → a * b + a * b ≤ a * a + b * b
twice a b = by_case (le_or_lt a b)
  where
    by_case : (a ≤ b) ⊎ (b < a) → a * b + a * b ≤ a * a + b * b
    by_case (inl l) = twice_from a b l
    by_case (inr l) = let m : b ≤ a = omega arith in omega (arith, twice_from b a m, mul_comm a b)

-- one more wait x beside p of them, with the sum t and the sum of squares s
cross : (p t s x : ℕ) → 0 < p → t * t ≤ p * s → t * x + t * x ≤ p * (x * x) + s
cross p t s x pos h =
    let left : p * (t * x) ≡ p * x * t = ap (λ (y : ℕ). p * y) (mul_comm t x) ∙ sym (mul_assoc p x t) in
    let right : p * x * (p * x) ≡ p * (p * (x * x)) = mul-mul-mul_comm p x p x ∙ mul_assoc p p (x * x) in
    let scaled : p * (t * x + t * x) ≤ p * (p * (x * x) + s) = simp mul-add (omega (arith, twice (p * x) t)) in
    le_of_mul-le-mul_left scaled pos

one_more_lem : (n t s x : ℕ) → t * t ≤ n * s → (t + x) * (t + x) ≤ suc n * (s + x * x)
one_more_lem zero zero s x h = rw (square_of_sum, one-mul) (omega arith)
one_more_lem zero (suc t) s x h = let z : suc t * t + suc t ≤ 0 = rw (mul-suc, zero-mul) at h in absurd (omega arith)
one_more_lem (suc n) t s x h =
    rw (square_of_sum, suc-mul, mul-add) (omega (arith, cross (suc n) t s x (zero-lt-suc n) h))

pub sum_squared : (xs : List ℕ) → total xs * total xs ≤ length xs * total_squares xs
unfolding total total_squares
sum_squared [] = omega arith
sum_squared (x ∷ xs) = one_more_lem (length xs) (total xs) (total_squares xs) x (sum_squared xs)

pub squares_at_most : (xs : List ℕ) → total_squares xs ≤ total xs * total xs
unfolding total total_squares
squares_at_most [] = omega arith
squares_at_most (x ∷ xs) = rw square_of_sum (omega (arith, squares_at_most xs))
