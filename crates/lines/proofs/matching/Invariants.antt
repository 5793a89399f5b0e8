-- What was counted, and what is left to count. Assumes nothing.
use Rattle.std.proofs.Common.{◌≡◌, ◌+◌, drop}
use Rattle.lines.specs.Settle.{equal_to}
use Rattle.lines.proofs.matching.Given as goal

abbrev pub invariant-loop-i : goal.invariant-loop-i
invariant-loop-i g l = let numbers = g.E.Entry.numbers_of l.numbers in l.count + equal_to l.lines (drop l.i numbers) ≡ equal_to l.lines numbers
