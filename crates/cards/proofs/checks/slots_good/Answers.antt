-- `cards::checks::slots_good` meets its contract: the numbers passed are good, and `used` marks their slots. Assumes nothing.
use Rattle.std.proofs.Common.{ℕ, refl, sym, ◌∙◌}
use Rattle.cards.proofs.Below.{all_fails, all_more, all_none}
use Rattle.cards.proofs.Used.{used_more, fits_good}
use Rattle.cards.proofs.checks.slots_good.Goals as goal
use Rattle.cards.specs.Table.{number_good, slots_good}
use Rattle.cards.specs.Used.{used_below}

pub loop-a-init : goal.loop-a-init
unfolding slots_good used_below
loop-a-init c = (sym (all_none _), refl)

pub returns-then-not-number_good : goal.returns-then-not-number_good
unfolding slots_good
returns-then-not-number_good c =
    let slots = c.args.slots.now in
    let top = c.args.top in
    let a = c.loop-a.a in
    let bad = rw c.loop-a.invariant.1 at c.number_good.ensures in
    all_fails 64 (λ (n : ℕ). number_good slots top n) a c.loop-a-test.true (sym (fits_good slots top a) ∙ sym bad ∙ c.if-not-number_good.true)

pub loop-a-preserved : goal.loop-a-preserved
unfolding slots_good
loop-a-preserved c =
    let inv = c.loop-a.invariant in
    let slots = c.args.slots.now in
    let fits = rw inv.1 at c.number_good.ensures in (
      rw (all_more, inv.0, ← fits_good slots c.args.top c.loop-a.a, ← fits, c.if-not-number_good.false),
      rw (used_more, inv.1),
    )
