-- `cardfile::records::Column::distinct` meets its contract: the test of each record. Assumes nothing.
use Rattle.std.proofs.Common.{rules, tests}
use Rattle.cardfile.proofs.records.Column.distinct.Goals as goal
use Rattle.cardfile.specs.Format.{column_distinct}
use Rattle.cards.proofs.Chains.{all_over}

pub returns : goal.returns
unfolding column_distinct
returns c = all_over _ _ _ _ _ c.all.ensures.ran (cc) (λ x b q k. search (rules, tests))
