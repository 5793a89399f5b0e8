-- Every entry of the row is tested.
use Rattle.std.proofs.Common.{rules, tests, ◌∙◌, nat_le}
use Rattle.std.proofs.lemmas.Iterator.{YieldsList-from_slice}
use Rattle.cards.proofs.Folds.{all_folded}
use Rattle.tally.proofs.Listed.{all_listed}
use Rattle.tally.proofs.checks.row_good.Goals as goal

pub returns : goal.returns
returns c =
    let row = c.args.row.now in
    all_folded _ _ _ _ (λ entry. nat_le entry c.args.n) row _ _ (YieldsList-from_slice row cc) (λ good x b q k. search (rules, tests)) c.fold.ensures.ran
    ∙ all_listed _ row 0 64 (search rules)
