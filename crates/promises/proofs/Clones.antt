-- Cloned cards: how many numbers equal the settled lines. Assumes nothing.
use Prim.Native.Nat.{ℕ, zero, suc, ◌+◌, ◌-◌, ◌/◌, ◌^◌, ◌≤◌, ◌<◌}
use native.Mathlib.Omega.{arith}
use mathlib.Core.Bool.{Bool, true, false, cond, ◌||◌, true≢false}
use mathlib.Core.List.{List, [], ◌∷◌}
use mathlib.Core.Path.{◌≡◌, refl, sym, ap, ◌∙◌}
use lib.Dec.{leb, ltb, eqb}
use lib.ListN.{length}
use borrow.Author.Tests.{lt-ltb}
use Rattle.arbiter.proofs.Matched.{arbitration_shows, event_shows}
use Rattle.laptop.specs.Settle.{code_or}
use Rattle.laptop.specs.Words.{words}
use Rattle.lines.proofs.Matches.{matches_greatest}
use Rattle.lines.proofs.Refusal.{accepted}
use Rattle.lines.specs.Greatest.{greatest}
use Rattle.lines.specs.Settle.{equal_to, some_from, refusal, done}
use Rattle.promises.proofs.Buffers.{few_stages}
use Rattle.promises.proofs.Settling.{greatest_below}
use Rattle.promises.specs.Clones.{Named, ShowsOne, ShowsNone, Taken, CodeRead}
use Rattle.promises.specs.Runs.{times}
use Rattle.tally.proofs.Effects.{granted-known}

-- the settling counts as the promises do
same_count : (x : ℕ) (numbers : List ℕ) → equal_to x numbers ≡ times x numbers
unfolding equal_to times
same_count x [] = refl
same_count x (number ∷ others) = rw (same_count x others)

-- the figure, where the numbers and the start are m bits wide
figure : (m : ℕ) (numbers : List ℕ) (start : ℕ) → greatest numbers < 2 ^ m → start < 2 ^ m
    → (done m numbers start).matches ≡ times (greatest numbers) numbers
figure m numbers start fits small = matches_greatest m numbers start fits small ∙ same_count (greatest numbers) numbers

pub named : Named
named m numbers start below small = figure m numbers start (greatest_below m numbers below) small

-- ---- an event

pub shows_one : ShowsOne
shows_one s granted = (arbitration_shows s).one (λ none. omega (arith, none, (granted-known s granted).winner_won.positive))

pub shows_none : ShowsNone
shows_none s e quiet = (event_shows s e.letter e.number).none (nobody _ quiet)
  where
    nobody : (w : ℕ) → ltb 0 w ≡ false → w ≡ 0
    nobody zero h = refl
    nobody (suc w) h = absurd (true≢false (sym (lt-ltb 0 (suc w) (omega arith)) ∙ h))

-- ---- the code for C

-- 21 to 25, or 0
chain : (a b c d e : Bool) → cond a 21 (cond b 22 (cond c 23 (cond d 24 (cond e 25 0)))) ≤ 25
chain true b c d e = omega arith
chain false true c d e = omega arith
chain false false true d e = omega arith
chain false false false true e = omega arith
chain false false false false true = omega arith
chain false false false false false = omega arith

refusal_small : (m : ℕ) (numbers : List ℕ) (start room : ℕ) → refusal m numbers start room ≤ 25
unfolding refusal
refusal_small m numbers start room =
    chain (eqb m 0 || ltb 12 m) (ltb 64 (length numbers)) (some_from (2 ^ m) numbers) (leb room m) (ltb (2 ^ m - 1) start)

taken : (m : ℕ) (numbers : List ℕ) (start room r n : ℕ) → refusal m numbers start room ≡ n → r ≡ code_or n m numbers start → Taken m numbers start room r
taken m numbers start room r zero none p =
    let ok = accepted m numbers start room none in
    let few = few_stages m numbers start room none in
    record {
      stages = λ _. omega (arith, p, few);
      figure = λ _. omega (arith, p, few, figure m numbers start ok.fits ok.small);
      refused = λ some. absurd (some none);
      apart = λ _. none;
      apart_refused = λ high. absurd (omega (arith, p, few));
    }
taken m numbers start room r (suc n) some p =
    let small = refusal_small m numbers start room in
    record {
      stages = λ none. absurd (omega (arith, none, some));
      figure = λ none. absurd (omega (arith, none, some));
      refused = λ _. p ∙ ap (λ (x : ℕ). 100 + x) (sym some);
      apart = λ low. absurd (omega (arith, p, some, small));
      apart_refused = λ _ none. omega (arith, none, some);
    }

pub code_read : CodeRead
code_read m numbers start buffer r last settles = taken m (words numbers) start (length buffer / 2) r _ refl settles.result
