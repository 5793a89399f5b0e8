-- `contest::settling_of` meets its contract: it settles what the cards show; a width that no table has settles nothing. Assumes nothing.
use Rattle.contest.proofs.Laws.{settled_as_shown}
use Rattle.contest.proofs.settling_of.Goals as goal

pub returns : goal.returns
returns c =
    let s = c.args.s.now in
    rw (c.settle.ensures.result, c.lines_of-m.ensures)
    (settled_as_shown s.table.k s.table.rule c.numbers_of-numbers.result _ s.value c.numbers_of-numbers.ensures)
