-- Laws of the rules' definitions. Assumes nothing.
use Prim.Native.Nat.{ℕ, zero, suc, ◌+◌, ◌-◌, ◌^◌, ◌≤◌, ◌<◌, min}
use native.Mathlib.Omega.{arith}
use mathlib.Core.Bool.{cond}
use mathlib.Core.Logic.{◌⊎◌, inl, inr}
use mathlib.Core.Path.{◌≡◌, refl}
use lib.Dec.{leb}
use lib.Pow.{pow_pos, pow_mono}
use borrow.Author.Tests.{le-leb, lt-leb}
use Rattle.cards.proofs.Below.{le_or_lt}
use Rattle.cards.specs.Table.{top_number}
use Rattle.rules.specs.Rules.{by_rule, lines_by, lines_given, span_of}

-- a number that is none of the rules'
pub other_rule : {A : Type 0} (n : ℕ) (x y z b i w : A) → (n ≡ 0 → ⊥) → (n ≡ 1 → ⊥) → (n ≡ 2 → ⊥) → (n ≡ 3 → ⊥) → (n ≡ 4 → ⊥)
    → by_rule n x y z b i w ≡ w
unfolding by_rule
other_rule zero x y z b i w p q r u v = absurd (p refl)
other_rule (suc zero) x y z b i w p q r u v = absurd (q refl)
other_rule (suc (suc zero)) x y z b i w p q r u v = absurd (r refl)
other_rule (suc (suc (suc zero))) x y z b i w p q r u v = absurd (u refl)
other_rule (suc (suc (suc (suc zero)))) x y z b i w p q r u v = absurd (v refl)
other_rule (suc (suc (suc (suc (suc n))))) x y z b i w p q r u v = refl

-- ---- the width: at most 6, or that of no table

pub lines_given_lem : (k rule : ℕ) → k ≤ 6 → lines_given k rule ≡ lines_by k rule
unfolding lines_given
lines_given_lem k rule small = rw (le-leb k 6 small)

-- never more than 12
pub lines_most : (k rule : ℕ) → k ≤ 6 → lines_by k rule ≤ 12
unfolding lines_by by_rule
lines_most k zero small = omega arith
lines_most k (suc zero) small = omega arith
lines_most k (suc (suc zero)) small = omega arith
lines_most k (suc (suc (suc zero))) small = omega arith
lines_most k (suc (suc (suc (suc zero)))) small = omega arith
lines_most k (suc (suc (suc (suc (suc rule))))) small = omega arith

pub span_of_lem : (k : ℕ) → k ≤ 6 → span_of k ≡ 2 ^ k
unfolding span_of
span_of_lem k small = rw (le-leb k 6 small)

-- one more than the greatest number
pub span_top : (k : ℕ) → (top_number k + 1 ≡ span_of k) × ((1 ≤ top_number k + 1) × (top_number k + 1 ≤ 64))
unfolding span_of top_number
span_top k = go (le_or_lt k 6)
  where
    go : (k ≤ 6) ⊎ (6 < k)
        → (cond (leb k 6) (2 ^ k - 1) 0 + 1 ≡ cond (leb k 6) (2 ^ k) 1)
        × ((1 ≤ cond (leb k 6) (2 ^ k - 1) 0 + 1) × (cond (leb k 6) (2 ^ k - 1) 0 + 1 ≤ 64))
    go (inl small) =
        let some : 1 ≤ 2 ^ k = pow_pos k in
        let most : 2 ^ k ≤ 2 ^ 6 = pow_mono small in
        rw (le-leb k 6 small) (omega arith, (omega arith, omega arith))
    go (inr wide) = rw (lt-leb k 6 wide) (refl, (omega arith, omega arith))

-- at most 64, which is 2 ^ 6
pub span_within : (k : ℕ) → span_of (min k 6) ≡ min 64 (2 ^ k)
span_within k = go (le_or_lt k 6)
  where
    go : (k ≤ 6) ⊎ (6 < k) → span_of (min k 6) ≡ min 64 (2 ^ k)
    go (inl small) =
        let most : 2 ^ k ≤ 2 ^ 6 = pow_mono small in
        let same : min k 6 ≡ k = omega arith in
        rw (same, span_of_lem k small) (omega arith)
    go (inr wide) =
        let least : 2 ^ 6 ≤ 2 ^ k = pow_mono {i = 6} (omega arith) in
        let same : min k 6 ≡ 6 = omega arith in
        rw (same, span_of_lem 6 (omega arith)) (omega arith)
