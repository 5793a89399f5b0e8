-- The lines, the bytes and the stages that changed some line. A stage that changes some line is one of the first m, so the measure m - t falls.
-- Assumes nothing.
use Rattle.std.proofs.Common.{◌-◌}
use Rattle.lines.proofs.After.{After}
use Rattle.lines.specs.Words.{words, put_word}
use Rattle.laptop.proofs.settling.run.Given as goal

abbrev pub invariant-loop-lines : goal.invariant-loop-lines
invariant-loop-lines l = After words put_word l.m (words l.numbers) l.start l.fn.stages l.stages l.t l.lines

abbrev pub decreases-loop-lines : goal.decreases-loop-lines
decreases-loop-lines l = l.m - l.t
