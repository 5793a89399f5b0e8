-- The lines are put into a list of numbers as they are. Assumes nothing.
use Rattle.lines.proofs.Trail.{settles_list}
use Rattle.lines.proofs.settle.Goals as goal

pub returns : goal.returns
returns c = rw (← c.from.ensures, ← c.from-2.ensures) (settles_list _ _ _ _ _ _ c.settle_in.ensures)
