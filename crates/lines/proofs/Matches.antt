-- Counting the numbers of a list that equal a value. Assumes nothing.
use Prim.Native.Nat.{ℕ, ◌+◌, ◌^◌, ◌≤◌, ◌<◌}
use native.Mathlib.Numerals.{add-one}
use native.Mathlib.Omega.{arith}
use mathlib.Core.Bool.{Bool, true, false, cond}
use mathlib.Core.List.{List, [], ◌∷◌, ◌++◌}
use mathlib.Core.Path.{◌≡◌, refl, ap}
use lib.Dec.{eqb}
use lib.ListN.{length, get_or, drop, drop_of_length-le}
use lib.Seq.{drop-cons}
use Rattle.lines.proofs.Stages.{settled-greatest}
use Rattle.lines.specs.Greatest.{greatest}
use Rattle.lines.specs.Settle.{equal_to, done}

one_at_most : (b : Bool) → cond b 1 0 ≤ 1
one_at_most true = omega arith
one_at_most false = omega arith

pub equal_most : (value : ℕ) (numbers : List ℕ) → equal_to value numbers ≤ length numbers
unfolding equal_to
equal_most value [] = omega arith
equal_most value (number ∷ others) = omega (arith, equal_most value others, one_at_most (eqb number value))

pub equal_append : (value : ℕ) (xs ys : List ℕ) → equal_to value (xs ++ ys) ≡ equal_to value xs + equal_to value ys
unfolding equal_to
equal_append value [] ys = omega arith
equal_append value (x ∷ xs) ys = rw (equal_append value xs ys) (omega arith)

pub equal_one : (value x : ℕ) → equal_to value (x ∷ []) ≡ cond (eqb x value) 1 0
unfolding equal_to
equal_one value x = omega arith

pub equal_none : (value : ℕ) → equal_to value [] ≡ 0
unfolding equal_to
equal_none value = refl

module _ (value : ℕ) (numbers : List ℕ) (i : ℕ) where
  -- what is counted, and what is left to count
  pub equal_more : i < length numbers
      → equal_to value (drop i numbers) ≡ cond (eqb (get_or numbers i 0) value) 1 0 + equal_to value (drop (i + 1) numbers)
  unfolding equal_to
  equal_more less = rw (add-one i) (ap (equal_to value) (drop-cons numbers i 0 less))

  pub equal_end : length numbers ≤ i → equal_to value (drop i numbers) ≡ 0
  unfolding equal_to
  equal_end all = ap (equal_to value) (drop_of_length-le numbers all)

-- where the numbers and the start are m bits wide, a settling counts the greatest number's entries
pub matches_greatest : (m : ℕ) (numbers : List ℕ) (start : ℕ) → greatest numbers < 2 ^ m → start < 2 ^ m
    → (done m numbers start).matches ≡ equal_to (greatest numbers) numbers
matches_greatest m numbers start fits small = ap (λ (value : ℕ). equal_to value numbers) (settled-greatest m numbers start fits small)

-- the steps of a count from the front
pub ruleset counting = (equal_more, equal_most, equal_end)
