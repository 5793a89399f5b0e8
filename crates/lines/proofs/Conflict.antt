-- The lines that carry 1 where a competitor's own bit is 0: it is outbid exactly where there are any, and then line 0 gets nothing of it.
-- Assumes nothing.
use Prim.Native.Nat.{ℕ, zero, suc, ◌-◌, ◌/◌, ◌%◌, ◌^◌, ◌<◌, min}
use native.Mathlib.Nat.{pow-suc, eq-zero-or-pos}
use native.Mathlib.Omega.{arith}
use mathlib.Core.Bool.{true, false, cond, or-true}
use mathlib.Core.Logic.{⊎_elim}
use mathlib.Core.Path.{◌≡◌, refl}
use lib.Bits.{bit_and, and_step, and_le_l}
use borrow.Author.Tests.{lt-ltb, le-ltb}
use Rattle.lines.specs.Settling.{outbid}

-- the lines that carry 1 where the own bit is 0
abbrev pub conflict : ℕ → ℕ → ℕ
conflict lines own = lines - bit_and lines own

module _ (lines own : ℕ) where
  pub conflict_half : conflict lines own / 2 ≡ conflict (lines / 2) (own / 2)
  conflict_half = omega (arith, and_step lines own, and_le_l (lines / 2) (own / 2))

  conflict_low : conflict lines own % 2 ≡ lines % 2 - min (lines % 2) (own % 2)
  conflict_low = omega (arith, and_step lines own, and_le_l (lines / 2) (own / 2))

-- whether it is outbid on one of m lines
pub not_outbid : (m lines own : ℕ) → conflict lines own ≡ 0 → outbid m lines own ≡ false
unfolding outbid
not_outbid zero lines own none = refl
not_outbid (suc m) lines own none =
    rw (not_outbid m (lines / 2) (own / 2) (omega (arith, conflict_half lines own)))
    (le-ltb (own % 2) (lines % 2) (omega (arith, conflict_low lines own)))

is_outbid : (m lines own : ℕ) → lines < 2 ^ m → 0 < conflict lines own → outbid m lines own ≡ true
unfolding outbid
is_outbid zero lines own fits some = absurd (omega arith)
is_outbid (suc m) lines own fits some =
    ⊎_elim
    (λ (none : conflict (lines / 2) (own / 2) ≡ 0).
    rw (lt-ltb (own % 2) (lines % 2) (omega (arith, conflict_low lines own, conflict_half lines own))) (or-true (outbid m (lines / 2) (own / 2))))
    (λ (above : 0 < conflict (lines / 2) (own / 2)). rw (is_outbid m (lines / 2) (own / 2) (omega (arith, pow-suc 2 m)) above))
    (eq-zero-or-pos (conflict (lines / 2) (own / 2)))

-- line 0 gets nothing where some line is in conflict: either it is one above, or line 0 itself, and then the own bit is 0
pub low_withdrawn : (m lines own : ℕ) → lines < 2 ^ suc m → 0 < conflict lines own → cond (outbid m (lines / 2) (own / 2)) 0 (own % 2) ≡ 0
low_withdrawn m lines own fits some =
    ⊎_elim
    (λ (none : conflict (lines / 2) (own / 2) ≡ 0).
    rw (not_outbid m (lines / 2) (own / 2) none) (omega (arith, conflict_low lines own, conflict_half lines own)))
    (λ (above : 0 < conflict (lines / 2) (own / 2)). rw (is_outbid m (lines / 2) (own / 2) (omega (arith, pow-suc 2 m)) above))
    (eq-zero-or-pos (conflict (lines / 2) (own / 2)))
