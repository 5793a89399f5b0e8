-- The cards passed stand at the front, the rest is as it was.
use Rattle.std.proofs.Common.{◌++◌, ◌≡◌, length, drop}
use Rattle.cards.specs.Saving.{card_bytes}
use Rattle.cards.proofs.saving.put_cards.Given as goal

abbrev pub invariant-loop-a : goal.invariant-loop-a
invariant-loop-a l = (l.at ≡ length (card_bytes l.slots l.a)) × (l.buf ≡ card_bytes l.slots l.a ++ drop l.at l.fn.buf)
