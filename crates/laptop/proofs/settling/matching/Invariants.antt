-- What was counted, and what is left to count. Assumes nothing.
use Rattle.std.proofs.Common.{◌≡◌, ◌+◌, drop}
use Rattle.lines.specs.Settle.{equal_to}
use Rattle.lines.specs.Words.{words}
use Rattle.laptop.proofs.settling.matching.Given as goal

abbrev pub invariant-loop-i : goal.invariant-loop-i
invariant-loop-i l = l.count + equal_to l.lines (drop l.i (words l.numbers)) ≡ equal_to l.lines (words l.numbers)
