-- An event that is done says that the tally has room and can be counted on.
use Rattle.std.proofs.Common.{sym}
use Rattle.tally.proofs.Laws.{counts, cards_of_lem}
use Rattle.tally.proofs.event_counted.Goals as goal

pub tally_after-tally-requires : goal.tally_after-tally-requires
tally_after-tally-requires c =
    let known = counts c.args.t c.args.q _ (sym c.in_ok-done.ensures.answer) in
    (known.below, cards_of_lem _ _ known.good)
