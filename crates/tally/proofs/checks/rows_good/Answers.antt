-- Every row of the square is tested.
use Rattle.std.proofs.Common.{rules, tests, ◌∙◌, List, ℕ, []}
use Rattle.std.proofs.lemmas.Iterator.{YieldsList-from_slice}
use Rattle.std.proofs.lemmas.Iterator.Search.{all_from_yields_List}
use Rattle.cards.specs.Below.{all_below}
use Rattle.tally.proofs.Listed.{all_listed}
use Rattle.tally.specs.Tally.{entry_good}
use Rattle.tally.proofs.checks.rows_good.Goals as goal

pub returns : goal.returns
returns c =
    let q = c.args.q.now in
    all_from_yields_List (λ (row : List ℕ). all_below 64 (entry_good c.args.n row)) _ _ _ c.all.ensures.ran (YieldsList-from_slice q cc) (λ x b q k. search (rules, tests))
    ∙ all_listed _ q [] 64 (search rules)
