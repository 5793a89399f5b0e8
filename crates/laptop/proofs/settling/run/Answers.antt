-- The next stage is the definition's, and where it differs it is one of the first m and there is room for it. Assumes nothing.
use Rattle.lines.proofs.After.{after_first, earlier, roomy, after_next, after_end}
use Rattle.lines.specs.Words.{words_put}
use Rattle.std.proofs.Common.{arith, rules}
use Rattle.laptop.proofs.settling.run.Goals as goal

pub loop-lines-init : goal.loop-lines-init
loop-lines-init c = rw c.put_word.ensures (after_first words_put c.requires c.ranges.start.fits)

pub overflow_add-t : goal.overflow_add-t
overflow_add-t c =
    omega (arith, earlier c.loop-lines.invariant c.requires c.next_stage-next.ensures c.if-next-lines.false, c.ranges.m.fits)

pub put_word-requires-in-loop-lines : goal.put_word-requires-in-loop-lines
put_word-requires-in-loop-lines c = roomy c.loop-lines.invariant c.requires c.next_stage-next.ensures c.if-next-lines.false

pub loop-lines-smaller : goal.loop-lines-smaller
loop-lines-smaller c = omega (arith, earlier c.loop-lines.invariant c.requires c.next_stage-next.ensures c.if-next-lines.false)

pub loop-lines-preserved : goal.loop-lines-preserved
loop-lines-preserved c =
    rw c.put_word-in-loop-lines.ensures
    (after_next c.loop-lines.invariant c.requires c.next_stage-next.ensures words_put (search rules) c.if-next-lines.false)

pub returns : goal.returns
returns c = after_end c.loop-lines.invariant c.requires c.next_stage-next.ensures c.if-next-lines.true _ c.matching-matches.ensures
