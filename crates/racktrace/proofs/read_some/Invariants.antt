-- A read moves on by the bytes that came, which lie in the buffer, and one that gives none ends the loop.
use Rattle.std.proofs.Common.{length, ◌-◌, ◌≤◌}
use Rattle.racktrace.proofs.read_some.Given as goal

abbrev pub invariant-loop-len : goal.invariant-loop-len
invariant-loop-len g l = l.len ≤ length l.buf

abbrev pub decreases-loop-len : goal.decreases-loop-len
decreases-loop-len g l = length l.initial.buf - l.len
