-- Each public contract of this crate admits one result. Assumes nothing.
use mathlib.Core.Path.{refl}
use Rattle.one_result.proofs.Laws.{one_result}
use Rattle.one_result.specs.Determined.{Determined}
use Rattle.report.proofs as report
use Rattle.report.proofs.Results.{one_report}
use Rattle.report.specs.contracts as contracts

pub waiting_report_determined : Determined contracts.waiting_report.ended report.waiting_report.Reads.Learnt
waiting_report_determined κ a x y b c p q = (one_report x y (one_result p q), refl)

pub opening_determined : Determined contracts.opening.ended report.opening.Reads.Learnt
opening_determined κ a x y b c p q = (one_result p q, refl)

pub card_text_determined : Determined contracts.card_text.ended report.card_text.Reads.Learnt
card_text_determined κ a x y b c p q = (one_result p q, refl)

pub row_text_determined : Determined contracts.row_text.ended report.row_text.Reads.Learnt
row_text_determined κ a x y b c p q = (one_result p.0 q.0, λ i. (tt, (tt, (tt, (one_result p.1 q.1 i, tt)))))
