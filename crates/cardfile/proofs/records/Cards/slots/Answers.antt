-- `cardfile::records::Cards::slots` meets its contract: `filled` has the cards passed. Assumes nothing.
use Rattle.std.proofs.Common.{◌≡◌, refl, sym, ◌∙◌, arith}
use Rattle.std.proofs.lemmas.List.{set_past}
use Rattle.cardfile.proofs.Filled.{slots_length}
use Rattle.cardfile.proofs.Laws.{filled_next}
use Rattle.cardfile.proofs.records.Cards.slots.Goals as goal
use Rattle.cardfile.proofs.records.Cards.slots.Goals.{then-a-lt64, else-a-lt64}
use Rattle.cardfile.specs.Format.{filled_of, value_at}

pub loop-j-init : goal.loop-j-init
unfolding filled_of
loop-j-init c = refl

pub loop-j-preserved : goal.loop-j-preserved
loop-j-preserved c =
    let s = c.args.self.now in
    let numbers = c.column-numbers.ensures in
    let slots = c.column-slots.ensures in
    let j = c.loop-j.j in
    let a : c.value-a.result ≡ value_at s.records.now s.header.length s.number j = c.value-a.ensures ∙ rw (numbers.0, numbers.1, numbers.2) in
    elim c.if-a-lt64.branch [
      | then-a-lt64 w ↦ w.filled-is ∙ rw (filled_next, c.loop-j.invariant, a, w.value.ensures, slots.0, slots.1, slots.2)
      | else-a-lt64 w ↦
          w.filled-is ∙ c.loop-j.invariant
          ∙ rw filled_next (sym (set_past _ _ _ (omega (arith, slots_length s.records.now s.header.length s.number s.slot j, w.if-a-lt64.false, a))))
    ]
