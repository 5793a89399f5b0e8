-- What the numbers passed apply is joined, and the rest of the list is to be joined to it. Assumes nothing.
use Rattle.std.proofs.Common.{arith}
use Rattle.lines.proofs.Join.{joined_none, joined_next, joined_all}
use Rattle.lines.proofs.next_stage.Goals as goal

pub loop-i-init : goal.loop-i-init
loop-i-init g c = joined_none _ _

pub loop-i-preserved : goal.loop-i-preserved
loop-i-preserved g c = joined_next c.loop-i.invariant _ _ (omega (arith, c.loop-i-test.true, c.count-i-end.ensures)) c.number.ensures c.applied_by-joined.ensures

pub returns : goal.returns
returns g c = joined_all c.loop-i.invariant (omega (arith, c.loop-i-test.false, c.count-i-end.ensures))
