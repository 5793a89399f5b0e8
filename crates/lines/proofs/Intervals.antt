-- How many stages at most. Each run of equal bits of the greatest number costs one stage: once the lines above a run carry the greatest number's
-- bits, the next stage gives the whole run. So from 0 the stages are at most the interval-number, and from any start one more: the start may set
-- lines where the greatest number has its leading zeros, which are no run, and a stage goes to clear them. A greatest number with its top line set
-- has none of these. Assumes nothing.
use Prim.Native.Nat.{ℕ, zero, suc, ◌+◌, ◌-◌, ◌/◌, ◌%◌, ◌^◌, ◌≤◌, ◌<◌}
use native.Mathlib.Nat.{add_assoc, add-zero, div-eq_of_lt, eq-or-lt_of_le, eq-zero-or-pos, le_of_suc-le-suc, le_refl, lt_of_not-le, pow-suc}
use native.Mathlib.Numerals.{add-one}
use native.Mathlib.Omega.{arith}
use mathlib.Core.Bool.{Bool, true, false, cond}
use mathlib.Core.List.{List}
use mathlib.Core.Logic.{◌⊎◌, inl, inr, ⊎_elim}
use mathlib.Core.Path.{◌≡◌, refl, sym, ◌∙◌}
use lib.Dec.{eqb}
use lib.Pow.{pow_pos}
use borrow.Author.Tests.{le-ltb, eqb-true}
use Rattle.lines.proofs.Greatest.{half_mono, outbid_self, outbid_less, LowRight, stage_low, above_right, greatest_half, reaches}
use Rattle.lines.proofs.Halves.{halves, kept_le, applied_low, lines_half}
use Rattle.lines.proofs.Runs.{intervals_zero, intervals_more, intervals_none}
use Rattle.lines.proofs.Stages.{stages_least}
use Rattle.lines.specs.Greatest.{greatest}
use Rattle.lines.specs.Intervals.{interval_number}
use Rattle.lines.specs.Line.{line}
use Rattle.lines.specs.Settling.{outbid, lines_at, stages}

-- The lines are ready for more bits of the run that `top` ends in: `top` is not outbid if it is a run of ones, and each lower number is if it is one
-- of zeros.
record Ready (m lines top : ℕ) : Type 0 where
  ones : top % 2 ≡ 1 → outbid m lines top ≡ false
  zeros : top % 2 ≡ 0 → (own : ℕ) → own ≤ top → (own ≡ top) ⊎ (outbid m lines own ≡ true)

-- the lines carry the greatest number from stage k on, and are ready from the stage before
record From (m : ℕ) (numbers : List ℕ) (start k : ℕ) : Type 0 where
  carries : (t : ℕ) → k ≤ t → lines_at m numbers start t ≡ greatest numbers
  ready : (t : ℕ) → k ≤ suc t → Ready m (lines_at m numbers start t) (greatest numbers)

-- ---- one more line below

bit_cases : (x : ℕ) → (x % 2 ≡ 0) ⊎ (x % 2 ≡ 1)
bit_cases x = ⊎_elim (λ (e : x % 2 ≡ 0). inl e) (λ (p : 0 < x % 2). inr (omega arith)) (eq-zero-or-pos (x % 2))

-- the run goes on
module _ (m lines top : ℕ) (same : top / 2 % 2 ≡ top % 2) (ready : Ready m (lines / 2) (top / 2)) where
  same_right : LowRight m lines top
  same_right =
      ⊎_elim
      (λ (zero_bit : top % 2 ≡ 0). record {
        most = λ own le. rw applied_low (⊎_elim
            (λ (e : own / 2 ≡ top / 2). omega (arith, kept_le (outbid m (lines / 2) (own / 2)) (own % 2)))
            (λ (o : outbid m (lines / 2) (own / 2) ≡ true). rw o (omega arith))
            (ready.zeros (omega arith) (own / 2) (half_mono le)));
        own_bit = rw applied_low (omega (arith, kept_le (outbid m (lines / 2) (top / 2)) (top % 2)));
      })
      (λ (one_bit : top % 2 ≡ 1). record {
        most = λ own le. omega arith;
        own_bit = rw (applied_low m lines top, ready.ones (omega arith));
      })
      (bit_cases top)

  same_ready : Ready (suc m) lines top
  unfolding outbid
  same_ready = record {
    ones = λ one_bit. rw (ready.ones (omega arith)) (le-ltb (top % 2) (lines % 2) (omega arith));
    zeros = λ zero_bit own le. ⊎_elim
        (λ (e : own / 2 ≡ top / 2). inl (omega arith))
        (λ (o : outbid m (lines / 2) (own / 2) ≡ true). inr (rw o))
        (ready.zeros (omega arith) (own / 2) (half_mono le));
  }

-- the lines above are right: any bit may follow
above_ready : (m lines top : ℕ) → top < 2 ^ suc m → lines / 2 ≡ top / 2 → Ready (suc m) lines top
unfolding outbid
above_ready m lines top fits above = record {
  ones = λ one_bit. rw (above, outbid_self m (top / 2)) (le-ltb (top % 2) (lines % 2) (omega arith));
  zeros = λ zero_bit own le. ⊎_elim
      (λ (e : own / 2 ≡ top / 2). inl (omega arith))
      (λ (l : own / 2 < top / 2). inr (rw (above, outbid_less m (own / 2) (top / 2) l (omega (arith, pow-suc 2 m)))))
      (eq-or-lt_of_le (half_mono le));
}

module _ (m : ℕ) (numbers : List ℕ) (start k : ℕ) (from : From m (halves numbers) (start / 2) k) where
  abbrev top : ℕ
  top = greatest numbers

  abbrev lines : ℕ → ℕ
  lines = lines_at (suc m) numbers start

  above : (t : ℕ) → k ≤ t → lines t / 2 ≡ top / 2
  above t h = lines_half m numbers start t ∙ from.carries t h ∙ greatest_half numbers

  -- the run goes on: no later. No stage has come before stage 0, so there the lines must be clear.
  run_on : (k ≡ 0 → start ≡ 0) → top / 2 % 2 ≡ top % 2 → From (suc m) numbers start k
  unfolding lines_at
  run_on clear same = record { carries = carries; ready = λ t h. same_ready m (lines t) top same (upper t h) }
    where
      upper : (t : ℕ) → k ≤ suc t → Ready m (lines t / 2) (top / 2)
      upper t h = rw (lines_half m numbers start t, ← greatest_half numbers) (from.ready t h)

      carries : (t : ℕ) → k ≤ t → lines t ≡ top
      carries zero h = omega (arith, clear (omega arith), above zero h)
      carries (suc t) h = omega (arith, stage_low m (lines t) numbers (same_right m (lines t) top same (upper t h)), above (suc t) h)

  -- another run begins: one stage later
  run_new : top < 2 ^ suc m → From (suc m) numbers start (suc k)
  unfolding lines_at
  run_new fits = record { carries = carries; ready = λ t h. above_ready m (lines t) top fits (above t (omega arith)) }
    where
      carries : (t : ℕ) → suc k ≤ t → lines t ≡ top
      carries zero h = absurd (omega arith)
      carries (suc t) h =
          omega (arith, stage_low m (lines t) numbers (above_right m (lines t) top fits (above t (omega arith))), above (suc t) (omega arith))

  one_more_lem : (k ≡ 0 → top / 2 % 2 ≡ top % 2 → start ≡ 0) → top < 2 ^ suc m
      → From (suc m) numbers start (k + cond (eqb (top / 2 % 2) (top % 2)) 0 1)
  one_more_lem clear fits = go (eqb (top / 2 % 2) (top % 2)) refl
    where
      go : (b : Bool) → eqb (top / 2 % 2) (top % 2) ≡ b → From (suc m) numbers start (k + cond b 0 1)
      go true e =
          let same = eqb-true _ _ e in
          rw add-zero (run_on (λ none. clear none same) same)
      go false e = rw add-one (run_new fits)

-- ---- all lines: in as many stages as the interval-number and `late` more

-- not late is a start from 0, or any where the greatest number has its top line set; with no line there is none to set
abbrev InTime : ℕ → ℕ → ℕ → Type 0
InTime m top start = (start ≡ 0) ⊎ (2 ^ m / 2 ≤ top)

in_time_above : (m top start : ℕ) → InTime (suc m) top start → InTime m (top / 2) (start / 2)
in_time_above m top start = ⊎_elim (λ (z : start ≡ 0). inl (omega arith)) (λ (h : 2 ^ suc m / 2 ≤ top). inr (omega (arith, pow-suc 2 m)))

-- a greatest number of 0 has no line set, so that only a start from 0 is in time
in_time_none : (m top start : ℕ) → InTime (suc m) top start → top ≡ 0 → start ≡ 0
in_time_none m top start in-time none =
    ⊎_elim (λ (z : start ≡ 0). z) (λ (h : 2 ^ suc m / 2 ≤ top). absurd (omega (arith, pow-suc 2 m, pow_pos m))) in-time

carried : (m : ℕ) (numbers : List ℕ) (start late : ℕ) → (late ≡ 0 → InTime m (greatest numbers) start) → greatest numbers < 2 ^ m → start < 2 ^ m
    → From m numbers start (late + interval_number m (greatest numbers))
carried zero numbers start late in-time fits small = record {
  carries = λ t h. reaches 0 numbers start t fits small (omega arith);
  ready = λ t h. record { ones = λ odd. absurd (omega arith); zeros = λ even own le. inl (omega arith) };
}
carried (suc m) numbers start late in-time fits small =
    let top : ℕ = greatest numbers in
    let high : top / 2 < 2 ^ m = omega (arith, pow-suc 2 m) in
    let half = carried m (halves numbers) (start / 2) late (λ e. rw greatest_half (in_time_above m top start (in-time e)))
    (rw greatest_half high) (omega (arith, pow-suc 2 m)) in
    let clear : late + interval_number m (top / 2) ≡ 0 → top / 2 % 2 ≡ top % 2 → start ≡ 0 =
    λ none same. in_time_none m top start (in-time (omega arith)) (omega (arith, intervals_none m (top / 2) high (omega arith))) in
    rw (intervals_more m top fits, ← add_assoc late _ _)
    (one_more_lem m numbers start (late + interval_number m (top / 2)) (rw (greatest_half numbers) at half) clear fits)

-- the top line of m is set from half of 2 ^ m up
top_half : (m top : ℕ) → line (m - 1) top ≡ 1 → 2 ^ m / 2 ≤ top
top_half zero top set = omega arith
top_half (suc m) top set =
    let last : suc m - 1 ≡ m = omega arith in
    let bit : line m top ≡ 1 = rw last at set in
    let up : 2 ^ m ≤ top = le_of_suc-le-suc (lt_of_not-le (λ below. absurd (omega (arith, bit, div-eq_of_lt below)))) in
    omega (arith, up, pow-suc 2 m)

-- ---- the promises

module _ (m : ℕ) (numbers : List ℕ) (fits : greatest numbers < 2 ^ m) where
  stages_by : (start k : ℕ) → start < 2 ^ m → From m numbers start k → stages m numbers start ≤ k
  stages_by start k small from =
      le_of_suc-le-suc (lt_of_not-le (λ more.
      (stages_least m numbers start fits small).before k more (from.carries k (le_refl k) ∙ sym (from.carries (suc k) (omega arith)))))

  -- from 0: no more stages than the interval-number of the greatest number
  pub stages_intervals : stages m numbers 0 ≤ interval_number m (greatest numbers)
  stages_intervals = omega (arith, stages_by 0 _ (pow_pos m) (carried m numbers 0 0 (λ _. inl refl) fits (pow_pos m)))

  -- from any start: one more at most
  pub stages_any : (start : ℕ) → start < 2 ^ m → stages m numbers start ≤ interval_number m (greatest numbers) + 1
  stages_any start small = omega (arith, stages_by start _ small (carried m numbers start 1 (λ none. absurd (omega arith)) fits small))

  -- and none where the greatest number has its top line set
  pub stages_topped : (start : ℕ) → start < 2 ^ m → line (m - 1) (greatest numbers) ≡ 1 → stages m numbers start ≤ interval_number m (greatest numbers)
  stages_topped start small top =
      omega (arith, stages_by start _ small (carried m numbers start 0 (λ _. inr (top_half m (greatest numbers) top)) fits small))

  -- nobody competes, or only zeros
  pub stages_nobody : (start : ℕ) → start < 2 ^ m → greatest numbers ≡ 0 → stages m numbers start ≤ 1
  stages_nobody start small none =
      let any = rw none at (stages_any start small) in
      omega (arith, any, intervals_zero m)
