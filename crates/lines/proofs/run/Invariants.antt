-- The lines, the entries and the stages that changed some line. A stage that changes some line is one of the first m, so the measure m - t falls.
-- Assumes nothing.
use Rattle.std.proofs.Common.{◌-◌}
use Rattle.lines.proofs.After.{After}
use Rattle.lines.proofs.run.Given as goal

abbrev pub invariant-loop-lines : goal.invariant-loop-lines
invariant-loop-lines g l =
    let e = g.E.Entry in
    After e.numbers_of e.with_number l.m (e.numbers_of l.numbers) l.start l.fn.stages l.stages l.t l.lines

abbrev pub decreases-loop-lines : goal.decreases-loop-lines
decreases-loop-lines g l = l.m - l.t
