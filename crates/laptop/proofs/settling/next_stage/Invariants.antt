-- What the numbers passed apply is joined. Assumes nothing.
use Rattle.lines.proofs.Join.{Joined}
use Rattle.lines.specs.Words.{words}
use Rattle.laptop.proofs.settling.next_stage.Given as goal

abbrev pub invariant-loop-i : goal.invariant-loop-i
invariant-loop-i l = Joined (words l.numbers) l.lines l.joined l.i
