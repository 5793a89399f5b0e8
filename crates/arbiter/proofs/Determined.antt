-- Each public contract of this crate admits one result. Assumes nothing.
use mathlib.Core.Path.{refl}
use Rattle.arbiter.proofs as arbiter
use Rattle.arbiter.proofs.Outcomes.{one_outcome, one_next_winner}
use Rattle.arbiter.specs.contracts as contracts
use Rattle.one_result.proofs.Laws.{one_result}
use Rattle.one_result.specs.Determined.{Determined}

pub state_of_determined : Determined contracts.parts.state_of.ended arbiter.parts.state_of.Reads.Learnt
state_of_determined κ a x y b c p q = (one_result p q, refl)

pub request_in_determined : Determined contracts.request_in.ended arbiter.request_in.Reads.Learnt
request_in_determined κ a x y b c p q = let one = one_outcome p q in (one.result, λ i. (tt, (one.state i, (tt, tt))))

pub release_in_determined : Determined contracts.release_in.ended arbiter.release_in.Reads.Learnt
release_in_determined κ a x y b c p q = let one = one_outcome p q in (one.result, λ i. (tt, (one.state i, (tt, tt))))

pub arbitrate_in_determined : Determined contracts.arbitrate_in.ended arbiter.arbitrate_in.Reads.Learnt
arbitrate_in_determined κ a x y b c p q = let one = one_outcome p q in (one.result, λ i. (tt, (one.state i, tt)))

pub next_in_determined : Determined contracts.next_in.ended arbiter.next_in.Reads.Learnt
next_in_determined κ a x y b c p q = (one_next_winner p q, refl)
