-- The next stage is the definition's, and where it differs it is one of the first m and there is room for it. Assumes nothing.
use Rattle.lines.proofs.After.{after_first, earlier, roomy, after_next, after_end}
use Rattle.std.proofs.Common.{arith, rules}
use Rattle.lines.proofs.run.Goals as goal

pub loop-lines-init : goal.loop-lines-init
loop-lines-init g c = rw c.put.ensures (after_first g.met.E.Entry.reads_back c.requires c.ranges.start.fits)

pub overflow_add-t : goal.overflow_add-t
overflow_add-t g c =
    omega (arith, earlier c.loop-lines.invariant c.requires c.next_stage-next.ensures c.if-next-lines.false, c.ranges.m.fits)

pub put-requires-in-loop-lines : goal.put-requires-in-loop-lines
put-requires-in-loop-lines g c = roomy c.loop-lines.invariant c.requires c.next_stage-next.ensures c.if-next-lines.false

pub loop-lines-smaller : goal.loop-lines-smaller
loop-lines-smaller g c = omega (arith, earlier c.loop-lines.invariant c.requires c.next_stage-next.ensures c.if-next-lines.false)

pub loop-lines-preserved : goal.loop-lines-preserved
loop-lines-preserved g c =
    rw c.put-in-loop-lines.ensures
    (after_next c.loop-lines.invariant c.requires c.next_stage-next.ensures g.met.E.Entry.reads_back (search rules)
    c.if-next-lines.false)

pub returns : goal.returns
returns g c = after_end c.loop-lines.invariant c.requires c.next_stage-next.ensures c.if-next-lines.true _ c.matching-matches.ensures
