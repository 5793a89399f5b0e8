-- Each public contract of this crate admits one result. Assumes nothing.
use mathlib.Core.Path.{refl}
use Rattle.refusals.proofs as refusals
use Rattle.refusals.specs.contracts as contracts
use Rattle.one_result.proofs.Laws.{one_result}
use Rattle.one_result.specs.Determined.{Determined}

pub number_determined : Determined contracts.Refusal.number.ended refusals.Refusal.number.Reads.Learnt
number_determined κ a x y b c p q = (one_result p q, refl)
