-- Each public contract of this crate admits one result. Assumes nothing.
use mathlib.Core.Path.{refl}
use Rattle.laptop_c.proofs as laptop_c
use Rattle.laptop_c.specs.contracts as contracts
use Rattle.one_result.proofs.Laws.{one_result}
use Rattle.one_result.specs.Determined.{Determined}

pub rack_settle_determined : Determined contracts.rack_settle.ended laptop_c.rack_settle.Reads.Learnt
rack_settle_determined κ a x y b c p q = (one_result p.result q.result, λ i. (tt, (tt, (one_result p.left q.left i, (tt, tt)))))

pub rack_check_determined : Determined contracts.rack_check.ended laptop_c.rack_check.Reads.Learnt
rack_check_determined κ a x y b c p q = (one_result p q, refl)

pub rack_table_determined : Determined contracts.rack_table.ended laptop_c.rack_table.Reads.Learnt
rack_table_determined κ a x y b c p q = (one_result p.result q.result, λ i. (tt, (one_result p.left q.left i, tt)))
