-- What is held of an unfinished line lies in the input. Assumes nothing.
use Rattle.std.proofs.Common.{◌≤◌, length}
use Rattle.racktrace.proofs.answer_all.Given as goal

abbrev pub invariant-loop : goal.invariant-loop
invariant-loop g l = l.turn.held ≤ length l.input
