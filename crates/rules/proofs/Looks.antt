-- Laws of looking down: where a look ends, what it finds, and when it finds nobody. Assumes nothing.
use Prim.Native.Nat.{ℕ, zero, suc, ◌≤◌, ◌<◌, min}
use native.Mathlib.Nat.{not-suc-le-zero, le_of_suc-le-suc, eq-or-lt_of_le}
use native.Mathlib.Omega.{arith}
use mathlib.Core.Bool.{Bool, true, false, cond, ◌&&◌, and-false}
use mathlib.Core.Logic.{◌⊎◌, inl, inr}
use mathlib.Core.Path.{◌≡◌, refl}
use lib.Dec.{leb}
use borrow.Author.Tests.{leb-true, le-leb, lt-leb}
use Rattle.cards.proofs.Below.{le_or_lt}
use Rattle.rules.specs.Look.{look_down}

module _ (test : ℕ → Bool) (low : ℕ) where
  -- where nothing is left
  pub look_end : (n : ℕ) → n ≤ low → look_down test low n ≡ 0
  unfolding look_down
  look_end zero h = refl
  look_end (suc n) h = rw (lt-leb low n h) (look_end n (omega arith))

  -- it finds nobody where nobody is
  pub look_none : (n : ℕ) → ((a : ℕ) → low ≤ a → a < n → test a ≡ false) → look_down test low n ≡ 0
  unfolding look_down
  look_none zero none = refl
  look_none (suc n) none = go (leb low n) refl (look_none n (λ a l h. none a l (omega arith)))
    where
      go : (b : Bool) → leb low n ≡ b → look_down test low n ≡ 0 → cond (b && test n) n (look_down test low n) ≡ 0
      go true e before = rw (none n (leb-true low n e) (omega arith)) before
      go false e before = before

  -- it finds w where w is the first
  pub look_finds : (n w : ℕ) → low ≤ w → w < n → test w ≡ true → ((a : ℕ) → w < a → a < n → test a ≡ false) → look_down test low n ≡ w
  unfolding look_down
  look_finds zero w l h t none = absurd (not-suc-le-zero h)
  look_finds (suc n) w l h t none =
      go (eq-or-lt_of_le (le_of_suc-le-suc h)) (λ m. look_finds n w l m t (λ a q r. none a q (omega arith)))
    where
      go : (w ≡ n) ⊎ (w < n) → (w < n → look_down test low n ≡ w) → cond (leb low n && test n) n (look_down test low n) ≡ w
      go (inl p) before = rw (← p, le-leb low w l, t)
      go (inr m) before = rw (none n m (omega arith), and-false (leb low n)) (before m)

  -- where nobody is from m on, a look from further up finds what one from m does
  pub look_within : (n m : ℕ) → ((a : ℕ) → m ≤ a → test a ≡ false) → look_down test low n ≡ look_down test low (min m n)
  unfolding look_down
  look_within zero m none = let low_end : min m 0 ≡ 0 = omega arith in rw low_end
  look_within (suc n) m none = go (le_or_lt m n) (look_within n m none)
    where
      go : (m ≤ n) ⊎ (n < m) → look_down test low n ≡ look_down test low (min m n)
          → cond (leb low n && test n) n (look_down test low n) ≡ look_down test low (min m (suc n))
      go (inl beyond) before =
          let same : min m (suc n) ≡ min m n = omega arith in
          rw (same, none n beyond, and-false (leb low n)) before
      go (inr below) before = let all : min m (suc n) ≡ suc n = omega arith in rw all
