-- Each public contract of this crate admits one result. Assumes nothing.
use mathlib.Core.Path.{refl}
use Rattle.rules.proofs as rules
use Rattle.rules.specs.contracts as contracts
use Rattle.one_result.proofs.Laws.{one_result}
use Rattle.one_result.specs.Determined.{Determined}

pub span_determined : Determined contracts.span.ended rules.span.Reads.Learnt
span_determined κ a x y b c p q = (one_result p.0 q.0, refl)

pub lines_of_determined : Determined contracts.lines_of.ended rules.lines_of.Reads.Learnt
lines_of_determined κ a x y b c p q = (one_result p q, refl)

pub is_robin_determined : Determined contracts.is_robin.ended rules.is_robin.Reads.Learnt
is_robin_determined κ a x y b c p q = (one_result p q, refl)

pub counts_losers_determined : Determined contracts.counts_losers.ended rules.counts_losers.Reads.Learnt
counts_losers_determined κ a x y b c p q = (one_result p q, refl)

pub has_batch_determined : Determined contracts.has_batch.ended rules.has_batch.Reads.Learnt
has_batch_determined κ a x y b c p q = (one_result p q, refl)

pub inhibits_determined : Determined contracts.inhibits.ended rules.inhibits.Reads.Learnt
inhibits_determined κ a x y b c p q = (one_result p q, refl)

pub one_if_determined : Determined contracts.counts.one_if.ended rules.counts.one_if.Reads.Learnt
one_if_determined κ a x y b c p q = (one_result p q, refl)

pub one_waits_determined : Determined contracts.counts.one_waits.ended rules.counts.one_waits.Reads.Learnt
one_waits_determined κ a x y b c p q = (one_result p q, refl)

pub some_loser_full_determined : Determined contracts.counts.some_loser_full.ended rules.counts.some_loser_full.Reads.Learnt
some_loser_full_determined κ a x y b c p q = (one_result p q, refl)

pub grow_counts_determined : Determined contracts.counts.grow_counts.ended rules.counts.grow_counts.Reads.Learnt
grow_counts_determined κ a x y b c p q = (refl, λ i. (tt, (tt, (one_result p q i, tt))))

pub renew_batch_determined : Determined contracts.sets.renew_batch.ended rules.sets.renew_batch.Reads.Learnt
renew_batch_determined κ a x y b c p q = (refl, λ i. (tt, (tt, (tt, (one_result p q i, tt)))))

pub clear_inhibitions_determined : Determined contracts.sets.clear_inhibitions.ended rules.sets.clear_inhibitions.Reads.Learnt
clear_inhibitions_determined κ a x y b c p q = (refl, λ i. (tt, (tt, (one_result p q i, tt))))

pub look_round_determined : Determined contracts.look_round.ended rules.look_round.Reads.Learnt
look_round_determined κ a x y b c p q = (one_result p q, refl)
