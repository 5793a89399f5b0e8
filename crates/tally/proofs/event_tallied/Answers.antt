-- A counted event that is done leaves room in the square for what it adds.
use Rattle.std.proofs.Common.{sym, subst}
use Rattle.tally.proofs.Room.{counted_room}
use Rattle.tally.specs.Counted.{Counted}
use Rattle.tally.specs.Room.{SquareRoom}
use Rattle.tally.proofs.event_tallied.Goals as goal

pub square_after-requires : goal.square_after-requires
square_after-requires c =
    subst (λ (counted : Counted). SquareRoom c.args.square counted.outcome) (sym c.in-Ok.ensures)
    (counted_room c.args.tally.now c.args.square c.args.s c.args.letter c.args.a)
