-- Each public contract of this crate admits one result. Assumes nothing.
use mathlib.Core.Path.{refl}
use Rattle.contest.proofs as contest
use Rattle.lines.proofs.Determined.{one_settled}
use Rattle.contest.specs.contracts as contracts
use Rattle.one_result.proofs.Laws.{one_result}
use Rattle.one_result.specs.Determined.{Determined}

pub some_first_determined : Determined contracts.some_first.ended contest.some_first.Reads.Learnt
some_first_determined κ a x y b c p q = (one_result p q, refl)

pub settling_of_determined : Determined contracts.settling_of.ended contest.settling_of.Reads.Learnt
settling_of_determined κ a x y b c p q = (one_settled x y (one_result p q), refl)
