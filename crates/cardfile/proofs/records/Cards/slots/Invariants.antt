-- `filled` has the cards passed.
use Rattle.std.proofs.Common.{◌≡◌}
use Rattle.cardfile.proofs.records.Cards.slots.Given as goal
use Rattle.cardfile.specs.Format.{filled_of}

abbrev pub invariant-loop-j : goal.invariant-loop-j
invariant-loop-j l = l.filled ≡ filled_of l.self.records.now l.self.header.length l.self.number l.self.slot l.j
