-- `cards::saving::put_cards` meets its contract: the cards passed stand at the front, the rest is as it was. Assumes nothing.
use Rattle.std.proofs.Common.{refl, arith}
use Rattle.cards.proofs.SavingLaws.{next-length, card_fits, card_next}
use Rattle.cards.proofs.saving.put_cards.Goals as goal
use Rattle.cards.specs.Below.{rows_below}

pub loop-a-init : goal.loop-a-init
unfolding rows_below
loop-a-init c = (refl, refl)

pub put_card-at-requires : goal.put_card-at-requires
put_card-at-requires c = omega (arith, card_fits c.args.slots.now c.loop-a.a c.loop-a-test.true)

pub loop-a-preserved : goal.loop-a-preserved
loop-a-preserved c =
    let inv = c.loop-a.invariant in
    let put = c.put_card-at in
    let slots = c.args.slots.now in (
      omega (arith, next-length slots c.loop-a.a),
      card_next slots c.args.buf.now c.loop-a.buf _ c.loop-a.a c.loop-a.at _ inv.0 inv.1 put.ensures,
    )
