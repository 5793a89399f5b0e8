-- What a competitor applies, without a count of bits: the lines in conflict, joined with themselves at each shift, cover every line from the highest
-- conflict down, and the own bits there are withdrawn. Each step doubles the shifts, and each is the same for every number, so a list goes eight at a
-- time. Assumes nothing.
use Prim.Native.Nat.{ℕ, zero, suc, ◌+◌, ◌-◌, ◌/◌, ◌%◌, ◌^◌, ◌<◌}
use native.Mathlib.Nat.{pow-suc, eq-zero-or-pos, div-one, zero-div, zero-add, suc-add, div-div-eq-div-mul, mul_comm}
use native.Mathlib.Omega.{arith}
use mathlib.Core.Logic.{⊎_elim}
use mathlib.Core.Path.{◌≡◌, refl, sym, ap, ◌∙◌}
use lib.Bits.{bit_and, bit_or, and_step, and_le_l, or_step, or_zero_l, or_zero_r, or_shr}
use Rattle.lines.proofs.Conflict.{conflict, conflict_half, not_outbid, low_withdrawn}
use Rattle.lines.proofs.Join.{or_assoc}
use Rattle.lines.specs.Settling.{applied}

-- c joined with itself at each shift below w
unfoldable pub reach : ℕ → ℕ → ℕ
reach zero c = 0
reach (suc w) c = bit_or c (reach w (c / 2))

halves_swap : (c a : ℕ) → c / 2 ^ a / 2 ≡ c / 2 / 2 ^ a
halves_swap c a = div-div-eq-div-mul c (2 ^ a) 2 ∙ ap (λ (x : ℕ). c / x) (mul_comm (2 ^ a) 2) ∙ sym (div-div-eq-div-mul c 2 (2 ^ a))

reach_shift : (w c a : ℕ) → reach w (c / 2 ^ a) ≡ reach w c / 2 ^ a
unfolding reach
reach_shift zero c a = sym (zero-div (2 ^ a))
reach_shift (suc w) c a = rw (halves_swap c a, reach_shift w (c / 2) a) (sym (or_shr c (reach w (c / 2)) a))

reach_half : (w c : ℕ) → reach w c / 2 ≡ reach w (c / 2)
reach_half w c = sym (reach_shift w c 1)

reach_more : (a b c : ℕ) → reach (a + b) c ≡ bit_or (reach a c) (reach b (c / 2 ^ a))
unfolding reach
reach_more zero b c = rw (zero-add, div-one, or_zero_l)
reach_more (suc a) b c =
    rw (suc-add, reach_more a b (c / 2), pow-suc 2 a, mul_comm (2 ^ a) 2, ← div-div-eq-div-mul c 2 (2 ^ a))
    (sym (or_assoc c (reach a (c / 2)) (reach b (c / 2 / 2 ^ a))))

pub reach_one : (c : ℕ) → c ≡ reach 1 c
unfolding reach
reach_one c = sym (or_zero_r c)

-- a step of the code doubles the reach
pub reach_twice : (w x c : ℕ) → x ≡ reach w c → bit_or x (x / 2 ^ w) ≡ reach (w + w) c
reach_twice w x c e = rw (e, reach_more w w c, reach_shift w c w)

reach_none : (w : ℕ) → reach w 0 ≡ 0
unfolding reach
reach_none zero = refl
reach_none (suc w) = rw (reach_none w)

reach_low : (w c : ℕ) → 0 < c → c < 2 ^ w → reach w c % 2 ≡ 1
unfolding reach
reach_low zero c some fits = absurd (omega arith)
reach_low (suc w) c some fits =
    ⊎_elim
    (λ (one : c / 2 ≡ 0). omega (arith, or_step c (reach w (c / 2))))
    (λ (above : 0 < c / 2). omega (arith, or_step c (reach w (c / 2)), reach_low w (c / 2) above (omega (arith, pow-suc 2 w))))
    (eq-zero-or-pos (c / 2))

-- the own bits that the reach of the conflict leaves
pub applied_smeared : (m w lines own : ℕ) → lines < 2 ^ m → own < 2 ^ m → conflict lines own < 2 ^ w
    → own - bit_and own (reach w (conflict lines own)) ≡ applied m lines own
unfolding applied
applied_smeared zero w lines own fits small word = omega arith
applied_smeared (suc m) w lines own fits small word =
    let x = reach w (conflict lines own) in
    let half : x / 2 ≡ reach w (conflict (lines / 2) (own / 2)) = reach_half w (conflict lines own) ∙ ap (reach w) (conflict_half lines own) in
    let above : own / 2 - bit_and (own / 2) (reach w (conflict (lines / 2) (own / 2))) ≡ applied m (lines / 2) (own / 2) =
    applied_smeared m w (lines / 2) (own / 2) (omega (arith, pow-suc 2 m)) (omega (arith, pow-suc 2 m)) (omega (arith, conflict_half lines own)) in
    let upper : own / 2 - bit_and (own / 2) (x / 2) ≡ applied m (lines / 2) (own / 2) = rw half above in
    ⊎_elim
    (λ (none : conflict lines own ≡ 0).
    let dark : x ≡ 0 = rw none (reach_none w) in
    rw (not_outbid m (lines / 2) (own / 2) (omega (arith, conflict_half lines own)))
    (omega (arith, upper, and_step own x, and_le_l (own / 2) (x / 2), dark)))
    (λ (some : 0 < conflict lines own).
    rw (low_withdrawn m lines own fits some)
    (omega (arith, upper, and_step own x, and_le_l (own / 2) (x / 2), reach_low w (conflict lines own) some word)))
    (eq-zero-or-pos (conflict lines own))
