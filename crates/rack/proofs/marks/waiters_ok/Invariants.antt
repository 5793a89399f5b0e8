-- `count` counts the cards passed. Assumes nothing.
use Rattle.std.proofs.Common.{◌≡◌}
use Rattle.cards.specs.Below.{count_below}
use Rattle.rules.specs.Marks.{is_in}
use Rattle.rack.proofs.marks.waiters_ok.Given as goal

abbrev pub invariant-loop-waits : goal.invariant-loop-waits
invariant-loop-waits l = l.count ≡ count_below l.waits-index (is_in l.s.waiting)
