-- The products fit, and the variance of good figures is not negative.
use Rattle.std.proofs.Common.{arith}
use Rattle.cards.proofs.Below.{all_at}
use Rattle.report.proofs.figures.card_line.Goals as goal
use Rattle.tally.proofs.Laws.{card_small, good_variance, spread_small}
use Rattle.tally.specs.Tally.{figures_of, card_good}

pub overflow_mul-result : goal.overflow_mul-result
overflow_mul-result c =
    let t = c.args.t.now in
    rw c.from-grants.ensures
    (omega (arith, c.type_inv.t, spread_small t.events (figures_of t c.args.b) (omega (arith, c.type_inv.t)) (card_small t c.requires.0 c.args.b c.requires.1)))

pub overflow_sub-result : goal.overflow_sub-result
overflow_sub-result c =
    let t = c.args.t.now in
    rw (c.from-grants.ensures, c.from-sum.ensures)
    (good_variance t.events (figures_of t c.args.b) (all_at 64 (card_good t) c.requires.0 c.args.b c.requires.1))
