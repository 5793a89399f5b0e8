-- An event that is counted on leaves room in the square.
use Rattle.std.proofs.Common.{rules, arith}
use Rattle.tally.proofs.Laws.{room_of}
use Rattle.tally.proofs.square_counted.Goals as goal

pub square_after-requires : goal.square_after-requires
square_after-requires g c = room_of c.args.n _ _ (omega arith) (omega arith) (search rules)
