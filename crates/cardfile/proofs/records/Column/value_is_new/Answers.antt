-- `cardfile::records::Column::value_is_new` meets its contract: the test of each value before. Assumes nothing.
use Rattle.std.proofs.Common.{arith, rules, tests, ◌∙◌}
use Rattle.std.specs.List.{range_with_len}
use Rattle.std.proofs.lemmas.Iterator.{YieldsList-from_range}
use Rattle.cardfile.proofs.records.Column.value_is_new.Goals as goal
use Rattle.cardfile.specs.Format.{value_is_new}
use Rattle.cards.proofs.Chains.{all_listed}
use Rattle.cards.proofs.Folds.{all_folded}

pub returns : goal.returns
unfolding value_is_new
returns c =
    all_folded _ _ _ _ _ (range_with_len 0 c.args.j) _ _ (YieldsList-from_range 0 c.args.j c.args.j (cc) (omega arith)) (λ new i b q k. search (rules, tests)) c.fold.ensures.ran
    ∙ all_listed _ c.args.j
