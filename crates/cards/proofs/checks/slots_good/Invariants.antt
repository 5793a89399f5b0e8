-- The numbers passed are good, and `used` marks their slots.
use Rattle.std.proofs.Common.{true, ◌≡◌}
use Rattle.cards.specs.Table.{slots_good}
use Rattle.cards.specs.Used.{used_below}
use Rattle.cards.proofs.checks.slots_good.Given as goal

abbrev pub invariant-loop-a : goal.invariant-loop-a
invariant-loop-a l = (slots_good l.slots l.top l.a ≡ true) × (l.used ≡ used_below l.slots l.a)
