-- `cards::saving::put_card` meets its contract: nothing, or the two stores. Assumes nothing.
use Rattle.std.proofs.Common.{◌+◌, ◌-◌, [], ◌∷◌, refl, arith}
use lib.Seq.{paste-zero}
use Rattle.std.proofs.lemmas.Slice.{put_mid-paste}
use Rattle.cards.proofs.SavingLaws.{card_none, card_some}
use Rattle.cards.proofs.saving.put_card.Goals as goal

pub returns-then-slot-eq0 : goal.returns-then-slot-eq0
returns-then-slot-eq0 c = rw (card_none _ c.if-slot-eq0.true) (omega arith, paste-zero c.args.buf.now c.args.at [])

pub slice_bounds-copy_from_slice-end : goal.slice_bounds-copy_from_slice-end
slice_bounds-copy_from_slice-end c = omega (arith, rw (card_some _ c.if-slot-eq0.false) at c.requires)

pub returns : goal.returns
returns c =
    let a = c.args in
    rw (card_some _ c.if-slot-eq0.false) (
      omega arith,
      put_mid-paste a.at (a.at + 2 - a.at) a.buf.now _ (a.a ∷ a.slot ∷ []) 2 c.copy_from_slice.ensures.after (omega arith) refl,
    )
