-- Each field stands at its place.
use Rattle.std.proofs.Common.{ap, ◌∙◌}
use Rattle.report.proofs.text.card_text.Goals as goal
use Rattle.report.specs.Text.{digits_of, with_digits, card_text}

pub returns : goal.returns
unfolding digits_of card_text
returns c =
    let card = c.args.card in
    let slot = rw c.from.ensures at c.put_digits.ensures in
    let number = rw c.from-2.ensures at c.put_digits-2.ensures in
    let grants = rw c.from-3.ensures at c.put_digits-3.ensures in
    let sum = rw c.from-4.ensures at c.put_digits-4.ensures in
    let over_grants = rw c.from-5.ensures at c.put_digits-5.ensures in
    c.put_digits-8.ensures
    ∙ ap (with_digits 51 10 card.denominator) (c.put_digits-7.ensures
    ∙ ap (with_digits 35 15 card.numerator) (c.put_digits-6.ensures
    ∙ ap (with_digits 24 10 card.squares) (over_grants
    ∙ ap (with_digits 18 5 card.grants) (sum
    ∙ ap (with_digits 12 5 card.sum) (grants
    ∙ ap (with_digits 6 5 card.grants) (number
    ∙ ap (with_digits 3 2 c.args.number) slot))))))
