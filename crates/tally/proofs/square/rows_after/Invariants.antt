-- The rows below b are as after the grant, and the others as before it.
use Rattle.tally.proofs.Rows.{Changed}
use Rattle.tally.specs.Tally.{rows_after}
use Rattle.tally.proofs.square.rows_after.Given as goal

abbrev pub invariant-loop-b : goal.invariant-loop-b
invariant-loop-b l = Changed (rows_after l.fn.q l.waiting l.w) l.fn.q l.b l.next
