-- The bytes passed are the line's, and the others are as they were. Assumes nothing.
use Rattle.std.proofs.Common.{◌++◌, ◌≡◌, take, drop}
use Rattle.trace.proofs.writing.copy_line.Given as goal

abbrev pub invariant-loop-i : goal.invariant-loop-i
invariant-loop-i l = l.to ≡ take l.i l.line ++ drop l.i l.initial.to
