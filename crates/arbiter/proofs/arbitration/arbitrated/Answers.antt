-- `arbiter::arbitration::arbitrated` meets its contract: by what the settling of the competing cards answers, and whom it names. Assumes nothing.
use Rattle.std.proofs.Common.{refl, sym, ◌∙◌, arith}
use Rattle.arbiter.proofs.Settling.{anew_lem, settles_alike, unsettled, unnamed, settled, lines_kept}
use Rattle.arbiter.proofs.arbitration.arbitrated.Goals as goal
use Rattle.refusals.proofs.Laws.{some_number}

pub returns-in_default : goal.returns-in_default
returns-in_default c =
    let alike = settles_alike c.args.s.now c.requires.0 c.some_first-anew.ensures (rw c.in_default.is at c.settling_of.ensures) in
    sym (unsettled c.args.s.now _ alike (λ none. omega (arith, some_number c.in_default.field-0, none)))

pub returns-in_default-card_named : goal.returns-in_default-card_named
returns-in_default-card_named c =
    let alike = settles_alike c.args.s.now c.requires.0 c.some_first-anew.ensures (rw c.in-Ok.is at c.settling_of.ensures) in
    sym (unnamed c.args.s.now _ alike (rw c.in_default-card_named.is at c.card_named.ensures))

pub won-requires : goal.won-requires
won-requires c =
    let alike = settles_alike c.args.s.now c.requires.0 c.some_first-anew.ensures (rw c.in-Ok.is at c.settling_of.ensures) in
    let named = rw c.in-Some.is at c.card_named.ensures in
    ((named.1.1, c.requires), (anew_lem c.args.s.now c.some_first-anew.ensures, lines_kept c.args.s.now _ alike))

pub returns : goal.returns
returns c =
    let alike = settles_alike c.args.s.now c.requires.0 c.some_first-anew.ensures (rw c.in-Ok.is at c.settling_of.ensures) in
    let named = rw c.in-Some.is at c.card_named.ensures in
    c.won.ensures ∙ settled c.args.s.now _ alike refl named.0 named.1.0
