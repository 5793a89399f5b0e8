-- What a settling comes to from any start, and how many stages it takes at most, and so an arbitration. Assumes nothing.
use Prim.Native.Nat.{ℕ, ◌+◌, ◌-◌, ◌^◌, ◌≤◌, ◌<◌}
use native.Mathlib.Omega.{arith}
use mathlib.Core.Bool.{Bool, true, false, cond}
use mathlib.Core.List.{List, [], ◌∷◌}
use mathlib.Core.Path.{◌≡◌, refl, sym, ◌∙◌}
use lib.Dec.{eqb}
use lib.ListN.{replicate}
use lib.Pow.{pow_pos}
use Rattle.arbiter.proofs.Formed.{Formed, formed_of}
use Rattle.arbiter.proofs.Numbers.{wide, greatest_fits, settles}
use Rattle.arbiter.specs.Arbitrate.{competing, settling_of, winner_of, some_loser_full, grant_to, won_by, has_winner, arbitrated, arbitrate_refusal}
use Rattle.arbiter.specs.Events.{answered, answered_by}
use Rattle.arbiter.specs.State.{lines_of, well_formed}
use Rattle.arbiter.specs.Outcome.{Outcome}
use Rattle.state.specs.declared.RackState.{RackState}
use Rattle.lines.proofs.Intervals.{stages_intervals, stages_any, stages_topped, stages_nobody}
use Rattle.lines.proofs.Promises.{greatest_in}
use Rattle.lines.proofs.Refusal.{zeros_greatest}
use Rattle.lines.proofs.Stages.{stages_le, stages_least, least_unique, settled-greatest}
use Rattle.lines.specs.Greatest.{greatest, IsLeast}
use Rattle.lines.specs.Intervals.{interval_number}
use Rattle.lines.specs.Line.{line}
use Rattle.lines.specs.Settling.{stages}
use Rattle.promises.specs.Settling.{AllBelow, SettledAlike, StagesWithin, StagesFromAny, LeastWithin, LeastFromAny, NobodyWithin, LeastNobody, ArbitrationWithin}

pub greatest_below : (m : ℕ) (numbers : List ℕ) → AllBelow m numbers → greatest numbers < 2 ^ m
unfolding greatest
greatest_below m [] below = pow_pos m
greatest_below m (number ∷ others) below =
    let top = greatest_in (number ∷ others) (omega arith) in
    rw top.2 at (below top.0 top.1)

pub settled_alike : SettledAlike
settled_alike m numbers start other below small fits =
    let top = greatest_below m numbers below in
    settled-greatest m numbers start top small ∙ sym (settled-greatest m numbers other top fits)

-- each part from what its law says, by arithmetic
pub stages_within : StagesWithin
stages_within m numbers some below =
    let top = greatest_below m numbers below in
    (omega (arith, stages_intervals m numbers top), omega (arith, stages_le m numbers 0 top (pow_pos m)))

pub stages_from_any : StagesFromAny
stages_from_any m numbers start below small =
    let top = greatest_below m numbers below in (
      omega (arith, stages_any m numbers top start small),
      λ set. omega (arith, stages_topped m numbers top start small set),
      omega (arith, stages_le m numbers start top small),
    )

pub nobody_within : NobodyWithin
unfolding greatest
nobody_within m start small =
    let zeros : (count : ℕ) → stages m (replicate count 0) start ≤ 1 =
    λ count. stages_nobody m (replicate count 0) (rw zeros_greatest (pow_pos m)) start small (zeros_greatest count) in
    (omega (arith, zeros 0), λ count. omega (arith, zeros count))

-- ---- the least stage after which no line changes

-- it is `stages`
least_is : (m : ℕ) (numbers : List ℕ) (start t : ℕ) → AllBelow m numbers → start < 2 ^ m → IsLeast m numbers start t → t ≡ stages m numbers start
least_is m numbers start t below small least =
    least_unique m numbers start t (stages m numbers start) least (stages_least m numbers start (greatest_below m numbers below) small)

pub least_within : LeastWithin
least_within m numbers t some below least = rw (least_is m numbers 0 t below (pow_pos m) least) (stages_within m numbers some below)

pub least_from_any : LeastFromAny
least_from_any m numbers start t below small least = rw (least_is m numbers start t below small least) (stages_from_any m numbers start below small)

pub least_nobody : LeastNobody
least_nobody m start t small least =
    rw (least_is m [] start t (λ i none. absurd (omega arith)) small least) (nobody_within m start small).0

-- ---- an arbitration

record Within (s : RackState) (o : Outcome) : Type 0 where
  by_runs : o.stages ≤ interval_number (lines_of s) o.lines + 1
  topped : line (lines_of s - 1) o.lines ≡ 1 → o.stages ≤ interval_number (lines_of s) o.lines
  by_lines : o.stages ≤ lines_of s

module _ (s : RackState) where
  -- a refused one has no stages
  none : (n : ℕ) → Within s (answered s n)
  none n = record { by_runs = omega arith; topped = λ _. omega arith; by_lines = omega arith }

  either : (t : Bool) {x y : Outcome} → Within s x → Within s y → Within s (cond t x y)
  either true p q = p
  either false p q = q

  granted_within : Formed s → Within s (grant_to s (winner_of s) (settling_of s))
  granted_within f =
      let m = lines_of s in
      let fits = greatest_fits s m (wide s f) 64 in
      rw (settles s f, settled-greatest m (competing s) s.value fits f.value_small)
      (record {
        by_runs = stages_any m (competing s) fits s.value f.value_small;
        topped = stages_topped m (competing s) fits s.value f.value_small;
        by_lines = stages_le m (competing s) s.value fits f.value_small;
      })

  by_formed : (formed : Bool) → well_formed s ≡ formed → Within s (answered_by (arbitrate_refusal formed s) s (arbitrated s))
  unfolding answered_by arbitrate_refusal arbitrated won_by
  by_formed false ill = none 17
  by_formed true ok =
      either (eqb (arbitrate_refusal true s) 0)
      (either (has_winner (winner_of s) (settling_of s)) (either (some_loser_full s (winner_of s)) (none 16) (granted_within (formed_of s ok))) (none 17))
      (none (arbitrate_refusal true s))

pub arbitration_within : ArbitrationWithin
arbitration_within s =
    let within = by_formed s (well_formed s) refl in
    (omega (arith, within.by_runs), λ set. omega (arith, within.topped set), omega (arith, within.by_lines))
