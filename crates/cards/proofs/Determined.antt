-- Each public contract of this crate admits one result. Assumes nothing.
use mathlib.Core.Path.{refl}
use Rattle.cards.proofs as cards
use Rattle.cards.proofs.SavingLaws.{one_saved}
use Rattle.cards.specs.contracts as contracts
use Rattle.one_result.proofs.Laws.{one_result}
use Rattle.one_result.specs.Determined.{Determined}

pub top_number_determined : Determined contracts.top_number.ended cards.top_number.Reads.Learnt
top_number_determined κ a x y b c p q = (one_result p q, refl)

pub in_table_determined : Determined contracts.in_table.ended cards.in_table.Reads.Learnt
in_table_determined κ a x y b c p q = (one_result p q, refl)

pub table_good_determined : Determined contracts.table_good.ended cards.table_good.Reads.Learnt
table_good_determined κ a x y b c p q = (one_result p q, refl)

pub save_table_determined : Determined contracts.save_table.ended cards.save_table.Reads.Learnt
save_table_determined κ a x y b c p q = (one_saved x y (one_result p.0 q.0), λ i. (tt, (one_result p.1 q.1 i, tt)))
