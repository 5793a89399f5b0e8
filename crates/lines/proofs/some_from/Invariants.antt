-- What was found, or is in what is left of the list. Assumes nothing.
use Rattle.std.proofs.Common.{◌≡◌, ◌||◌, drop}
use Rattle.lines.specs.Settle.{some_from}
use Rattle.lines.proofs.some_from.Given as goal

abbrev pub invariant-loop-i : goal.invariant-loop-i
invariant-loop-i g l = let numbers = g.E.Entry.numbers_of l.numbers in (l.some || some_from l.limit (drop l.i numbers)) ≡ some_from l.limit numbers
