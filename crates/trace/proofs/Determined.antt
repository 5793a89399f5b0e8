-- Each public contract of this crate admits one result. Assumes nothing.
use mathlib.Core.Path.{refl}
use Rattle.one_result.proofs.Laws.{one_result}
use Rattle.one_result.specs.Determined.{Determined}
use Rattle.trace.proofs as trace
use Rattle.trace.specs.contracts as contracts

pub parse_determined : Determined contracts.parse.ended trace.parse.Reads.Learnt
parse_determined κ a x y b c p q = (one_result p q, refl)

pub text_determined : Determined contracts.text.ended trace.text.Reads.Learnt
text_determined κ a x y b c p q = (one_result p q, refl)

pub run_determined : Determined contracts.run.ended trace.run.Reads.Learnt
run_determined κ a x y b c p q = (one_result p.result q.result, λ i. (tt, (tt, (one_result p.left q.left i, tt))))

pub refusal_text_determined : Determined contracts.refusal_text.ended trace.refusal_text.Reads.Learnt
refusal_text_determined κ a x y b c p q = (one_result p q, refl)
