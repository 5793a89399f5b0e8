-- The tally is made card by card.
use Rattle.std.proofs.Common.{rules, ◌+◌}
use Rattle.cards.proofs.Chains.{tabulated}
use Rattle.tally.specs.Tally.{no_figures, card_after}
use Rattle.tally.proofs.counting.tally_after.Goals as goal

pub returns : goal.returns
returns c =
    let cards = tabulated _ _ c.from_fn.result 64 no_figures
    (card_after c.args.t.now.cards c.args.letter c.args.a c.args.done.now.reported.winner c.args.done.now.state.waiting)
    c.from_fn.ensures.items (λ i y q lt r. search rules) in
    λ i. record { events = c.args.t.now.events + 1; cards = cards i }
