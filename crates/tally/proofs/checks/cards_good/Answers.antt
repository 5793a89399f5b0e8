-- Every card's figures are tested.
use Rattle.std.proofs.Common.{rules, tests, ◌∙◌}
use Rattle.std.proofs.lemmas.Iterator.{YieldsList-from_slice}
use Rattle.std.proofs.lemmas.Iterator.Search.{all_from_yields_List}
use Rattle.tally.proofs.Listed.{all_listed}
use Rattle.tally.specs.Tally.{no_figures, figures_good}
use Rattle.tally.proofs.checks.cards_good.Goals as goal

pub returns : goal.returns
returns c =
    let t = c.args.t.now in
    all_from_yields_List (figures_good t.events) _ _ _ c.all.ensures.ran (YieldsList-from_slice t.cards cc) (λ x b q k. search (rules, tests))
    ∙ all_listed _ t.cards no_figures 64 (search rules)
