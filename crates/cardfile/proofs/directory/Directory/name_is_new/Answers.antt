-- `cardfile::directory::Directory::name_is_new` meets its contract: the test of each entry before. Assumes nothing.
use Rattle.std.proofs.Common.{rules, tests}
use Rattle.cardfile.proofs.directory.Directory.name_is_new.Goals as goal
use Rattle.cardfile.specs.Format.{name_is_new}
use Rattle.cards.proofs.Chains.{all_over}

pub returns : goal.returns
unfolding name_is_new
returns c = all_over _ _ _ _ _ c.all.ensures.ran (cc) (λ x b q k. search (rules, tests))
