-- What the numbers passed apply is joined. Assumes nothing.
use Rattle.lines.proofs.Join.{Joined}
use Rattle.lines.proofs.next_stage.Given as goal

abbrev pub invariant-loop-i : goal.invariant-loop-i
invariant-loop-i g l = Joined (g.E.Entry.numbers_of l.numbers) l.lines l.joined l.i
