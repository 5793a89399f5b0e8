-- `rules::counts::one_more_each` meets its contract: it is made number by number. Assumes nothing.
use Rattle.std.proofs.Common.{rules}
use Rattle.cards.proofs.Chains.{tabulated}
use Rattle.rules.proofs.counts.one_more_each.Goals as goal
use Rattle.rules.specs.Counts.{grown_at}

pub returns : goal.returns
returns c =
    tabulated _ _ _ 64 0 (grown_at c.args.waiting.now c.args.counts.now) c.from_fn.ensures.items (λ i y q lt r. search rules)
