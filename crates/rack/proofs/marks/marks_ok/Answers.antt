-- `rack::marks::marks_ok` meets its contract: its closure is the test of a number. Assumes nothing.
use Rattle.std.proofs.Common.{rules, tests}
use Rattle.arbiter.specs.State.{mark_ok}
use Rattle.cards.proofs.Chains.{all_over}
use Rattle.rack.proofs.marks.marks_ok.Goals as goal

pub returns : goal.returns
returns c = all_over (mark_ok c.args.s.now) 64 _ _ _ c.all.ensures.ran (cc) (λ x b q k. search (rules, tests))
