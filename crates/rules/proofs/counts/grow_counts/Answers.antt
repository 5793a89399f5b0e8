-- `rules::counts::grow_counts` meets its contract: by the rule. Assumes nothing.
use Rattle.rules.proofs.counts.grow_counts.Goals as goal
use Rattle.rules.specs.Counts.{counts_grown}

pub returns-then-counts_losers : goal.returns-then-counts_losers
unfolding counts_grown
returns-then-counts_losers c = rw (c.one_more_each.ensures, ← c.counts_losers.ensures, c.if-counts_losers.true)

pub returns-else-counts_losers : goal.returns-else-counts_losers
unfolding counts_grown
returns-else-counts_losers c = rw (← c.counts_losers.ensures, c.if-counts_losers.false)
