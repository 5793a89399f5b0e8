-- A counted event is known by what tells of it. Assumes nothing.
use mathlib.Core.Path.{◌≡◌, refl, ap}
use Rattle.std.proofs.Common.{Result}
use Rattle.rack.proofs.Results.{one_told, one_done}
use Rattle.refusals.specs.declared.Refusal.{Refusal}
use Rattle.state.specs.declared.RackState.{RackState}
use Rattle.tally.specs.Counted.{Counted as Told, as_counted}
use Rattle.tally.specs.Tallied.{Tallied as ToldLent, as_tallied}
use Rattle.tally.specs.declared.Counted.{Counted}
use Rattle.tally.specs.declared.Tallied.{Tallied}
use Rattle.tally.specs.declared.Tally.{Tally}

abbrev counted_by : Told → Counted
counted_by c =
    let o = c.outcome in
    record { tally = c.tally; done = record { state = o.state; reported = record { winner = o.winner; lines = o.lines; stages = o.stages; matches = o.matches } } }

pub one_counted : (t : Tally) (s : RackState) (r q : Result Counted Refusal) → as_counted t s r ≡ as_counted t s q → r ≡ q
one_counted t s = one_told (as_counted t s) (λ c. c.outcome.answer) counted_by (λ x. (refl, refl)) (λ refusal. refl)

pub one_tallied : (s : RackState) (x y : Tallied) → as_tallied s x ≡ as_tallied s y → x ≡ y
one_tallied s x y same =
    let event = one_done s x.event y.event (ap (λ (t : ToldLent). t.outcome) same) in
    λ i. record { event = event i; square = (same i).square }
