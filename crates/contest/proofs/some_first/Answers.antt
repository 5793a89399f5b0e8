-- `contest::some_first` meets its contract: the test is asked of the numbers from 0 to 63. Assumes nothing.
use Rattle.std.proofs.Common.{rules, tests}
use Rattle.std.proofs.lemmas.Iterator.{YieldsList-from_range}
use Rattle.rules.proofs.Folds.{any_folded}
use Rattle.contest.proofs.some_first.Goals as goal
use Rattle.contest.specs.Shown.{first_at}

pub returns : goal.returns
returns c =
    let s = c.args.s.now in
    any_folded _ _ _ (first_at s.table.rule s.waiting s.batch s.inhibited) 64 _ _
    (YieldsList-from_range 0 64 64 (cc) (cc)) (λ some a b q k. search (rules, tests)) c.fold.ensures.ran
