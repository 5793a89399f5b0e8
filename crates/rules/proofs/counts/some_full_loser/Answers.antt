-- `rules::counts::some_full_loser` meets its contract: the test is asked of the numbers from 0 to 63. Assumes nothing.
use Rattle.std.proofs.Common.{rules, tests}
use Rattle.std.proofs.lemmas.Iterator.{YieldsList-from_range}
use Rattle.rules.proofs.Folds.{any_folded}
use Rattle.rules.proofs.counts.some_full_loser.Goals as goal
use Rattle.rules.specs.Counts.{full_loser}

pub returns : goal.returns
returns c =
    any_folded _ _ _ (full_loser c.args.full c.args.waiting.now c.args.counts.now c.args.w) 64 _ _
    (YieldsList-from_range 0 64 64 (cc) (cc)) (λ some a b q k. search (rules, tests)) c.fold.ensures.ran
