-- `cardfile::directory::Directory::good` meets its contract: the tests of each entry. Assumes nothing.
use Rattle.std.proofs.Common.{rules, tests}
use Rattle.cardfile.proofs.directory.Directory.good.Goals as goal
use Rattle.cardfile.specs.Format.{directory_good}
use Rattle.cards.proofs.Chains.{all_over}

pub returns : goal.returns
unfolding directory_good
returns c = all_over _ _ _ _ _ c.all.ensures.ran (cc) (λ x b q k. search (rules, tests))
