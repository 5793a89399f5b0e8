-- `rack::marks::value_ok` meets its contract: the shift loses nothing, since there are at most 12 lines. Assumes nothing.
use Rattle.std.proofs.Common.{◌≡◌, ◌≤◌, ◌<◌, ℕ, ◌∙◌, arith}
use Rattle.cards.proofs.Below.{one_shifted}
use Rattle.rules.proofs.Laws.{lines_given_lem, lines_most}
use Rattle.rules.specs.Rules.{lines_by, lines_given}
use Rattle.rack.proofs.marks.value_ok.Goals as goal

-- the lines are those of the state's rule, and few
module _ (k rule lines : ℕ) (small : k ≤ 6) (given : lines ≡ lines_given k rule) where
  by_the_rule : lines ≡ lines_by k rule
  by_the_rule = given ∙ lines_given_lem k rule small

  few : lines < 16
  few = omega (arith, by_the_rule, lines_most k rule small)

pub overflow_shl-result : goal.overflow_shl-result
overflow_shl-result c = few c.args.s.now.table.k c.args.s.now.table.rule c.lines_of.result c.requires c.lines_of.ensures

pub returns : goal.returns
returns c =
    let k = c.args.s.now.table.k in
    let rule = c.args.s.now.table.rule in
    let lines = c.lines_of.result in
    rw (one_shifted 16 lines (few k rule lines c.requires c.lines_of.ensures), by_the_rule k rule lines c.requires c.lines_of.ensures)
