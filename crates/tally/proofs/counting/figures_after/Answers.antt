-- The figures are small.
use Rattle.std.proofs.Common.{arith}
use Rattle.tally.proofs.Laws.{card_small}
use Rattle.tally.proofs.counting.figures_after.Goals as goal

pub granted-requires : goal.granted-requires
granted-requires c = (c.requires.0, card_small c.args.t.now c.requires.1 c.args.b c.requires.2)

pub passed_over-requires : goal.passed_over-requires
passed_over-requires c =
    let small = card_small c.args.t.now c.requires.1 c.args.b c.requires.2 in
    omega (arith, c.requires.0, small.running)
