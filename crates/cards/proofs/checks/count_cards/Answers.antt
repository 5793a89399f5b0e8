-- `cards::checks::count_cards` meets its contract: the slots that are not 0 are counted. Assumes nothing.
use Rattle.std.proofs.Common.{◌≡◌, ap, take, sym, ◌∙◌, arith, rules, not, eqb}
use Rattle.std.proofs.lemmas.List.{take_all}
use Rattle.std.proofs.lemmas.List.Sums.{count_by-le-length}
use Rattle.std.specs.List.{count_by}
use Rattle.cards.proofs.Chains.{count_of_list}
use Rattle.cards.proofs.checks.count_cards.Goals as goal
use Rattle.cards.specs.Table.{has_card}

pub returns : goal.returns
unfolding has_card
returns c =
    let slots = c.args.slots.now in
    let counted : c.count.result ≡ count_by (λ x. not (eqb x 0)) slots = search rules in
    let all : take 64 slots ≡ slots = take_all 64 slots (omega (arith, c.told-slots)) in (
      counted ∙ ap (count_by (λ x. not (eqb x 0))) (sym all) ∙ count_of_list (λ x. not (eqb x 0)) slots 0 64 (omega (arith, c.told-slots)),
      omega (arith, counted, count_by-le-length (λ x. not (eqb x 0)) slots, c.told-slots),
      c.told-slots,
    )
