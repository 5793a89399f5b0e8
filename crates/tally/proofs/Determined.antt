-- Each public contract of this crate admits one result. Assumes nothing.
use native.Mathlib.Omega.{arith}
use mathlib.Core.List.{[]}
use mathlib.Core.Path.{refl}
use Rattle.std.proofs.Common.{Result, Ok, Err}
use denote.Param.Laws.{Laws, IsCopy}
use denote.RattleType.{RattleType}
use mir.Syntax.{Dict}
use Rattle.std.specs.declared.clone.Clone as clone
use Rattle.arbiter.specs.Events.{answered}
use Rattle.arbiter.specs.Outcome.{Outcome, as_outcome}
use Rattle.arbiter.specs.State.{fresh_of}
use Rattle.one_result.proofs.Laws.{one_result}
use Rattle.one_result.specs.Determined.{Determined}
use Rattle.rack.specs.declared.Done.{Done}
use Rattle.tally.proofs as tally
use Rattle.tally.proofs.Results.{one_counted, one_tallied}
use Rattle.tally.specs.Room.{StandsFor}
use Rattle.tally.specs.contracts as contracts

pub tally_good_determined : Determined contracts.tally_good.ended tally.tally_good.Reads.Learnt
tally_good_determined κ a x y b c p q = (one_result p q, refl)

pub event_counted_determined : Determined contracts.event_counted.ended tally.event_counted.Reads.Learnt
event_counted_determined κ a x y b c p q = (one_counted a.0 a.1.1.0 x y (one_result p q), refl)

-- a refusal stands for this outcome too
abbrev some_refused : Outcome
some_refused = answered (fresh_of (record { k = 0; rule = 0; slots = [] })) 17

-- the outcome that an event stands for, or one of them
stood_for : {E : Type 0} → Result Done E → Outcome
stood_for (Ok done) = as_outcome done.state (Ok done.reported)
stood_for (Err why) = some_refused

stands : {E : Type 0} (event : Result Done E) → StandsFor event (stood_for event)
unfolding stood_for
stands (Ok done) = refl
stands (Err why) = λ none. omega (arith, none)

pub square_counted_determined : (E : RattleType) (laws : Laws E) (copy : IsCopy E) (clone : clone.Ghosts E.Denot) (clone_dict : Dict)
    → Determined (contracts.square_counted.ended E clone clone_dict) (tally.square_counted.Reads.Learnt E laws copy clone clone_dict)
square_counted_determined E laws copy clone clone_dict κ a x y b c p q =
    let event = a.1.1.0 in
    (one_result (p (stood_for event) (stands event)) (q (stood_for event) (stands event)), refl)

pub event_tallied_determined : Determined contracts.event_tallied.ended tally.event_tallied.Reads.Learnt
event_tallied_determined κ a x y b c p q =
    (one_tallied a.1.1.0 x y (one_result p.0 q.0), λ i. (one_result p.1 q.1 i, (tt, (tt, (tt, (tt, tt))))))
