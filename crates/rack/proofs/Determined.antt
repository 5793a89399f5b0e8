-- Each public contract of this crate admits one result. Assumes nothing.
use mathlib.Core.Path.{refl}
use Rattle.arbiter.proofs.Outcomes.{one_next_winner}
use Rattle.cards.proofs.SavingLaws.{one_saved}
use Rattle.one_result.proofs.Laws.{one_result}
use Rattle.one_result.specs.Determined.{Determined}
use Rattle.rack.proofs as rack
use Rattle.rack.proofs.Results.{one_done, one_how_many, one_loaded}
use Rattle.rack.specs.contracts as contracts

pub well_formed_determined : Determined contracts.well_formed.ended rack.well_formed.Reads.Learnt
well_formed_determined κ a x y b c p q = (one_result p q, refl)

pub waiting_count_determined : Determined contracts.waiting_count.ended rack.waiting_count.Reads.Learnt
waiting_count_determined κ a x y b c p q = (one_how_many x y (one_result p q), refl)

pub fresh_determined : Determined contracts.fresh.ended rack.fresh.Reads.Learnt
fresh_determined κ a x y b c p q = (one_result p q, refl)

pub request_determined : Determined contracts.request.ended rack.request.Reads.Learnt
request_determined κ a x y b c p q = (one_done a.0 x y (one_result p q), refl)

pub release_determined : Determined contracts.release.ended rack.release.Reads.Learnt
release_determined κ a x y b c p q = (one_done a.0 x y (one_result p q), refl)

pub arbitrate_determined : Determined contracts.arbitrate.ended rack.arbitrate.Reads.Learnt
arbitrate_determined κ a x y b c p q = (one_done a.0 x y (one_result p q), refl)

pub refused_determined : Determined contracts.refused.ended rack.refused.Reads.Learnt
refused_determined κ a x y b c p q = let one = one_result p q in ((λ i. ((one i).state, (one i).answer)), refl)

pub event_determined : Determined contracts.event.ended rack.event.Reads.Learnt
event_determined κ a x y b c p q = (one_done a.0 x y (one_result p q), refl)

pub load_determined : Determined contracts.load.ended rack.load.Reads.Learnt
load_determined κ a x y b c p q = (one_loaded x y (one_result p q), refl)

pub save_determined : Determined contracts.save.ended rack.save.Reads.Learnt
save_determined κ a x y b c p q = (one_saved x y (one_result p.0 q.0), λ i. (tt, (one_result p.1 q.1 i, tt)))

pub next_winner_determined : Determined contracts.next_winner.ended rack.next_winner.Reads.Learnt
next_winner_determined κ a x y b c p q = (one_next_winner p q, refl)
