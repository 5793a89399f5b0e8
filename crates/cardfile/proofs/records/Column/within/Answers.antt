-- `cardfile::records::Column::within` meets its contract: the test of each value. Assumes nothing.
use Rattle.std.proofs.Common.{rules, tests}
use Rattle.cardfile.proofs.records.Column.within.Goals as goal
use Rattle.cardfile.specs.Format.{column_within}
use Rattle.cards.proofs.Chains.{all_over}

pub returns : goal.returns
unfolding column_within
returns c = all_over _ _ _ _ _ c.all.ensures.ran (cc) (λ x b q k. search (rules, tests))
