-- `contest::offers::numbers_of` meets its contract: it is made number by number. Assumes nothing.
use Rattle.std.proofs.Common.{rules, ◌∙◌, ◌^◌, ◌≡◌}
use Rattle.cards.proofs.Chains.{tabulated}
use Rattle.rules.proofs.Laws.{span_of_lem}
use Rattle.contest.specs.Shown.{marks_of, shown_at}
use Rattle.contest.proofs.offers.numbers_of.Goals as goal

pub returns : goal.returns
unfolding shown_at
returns c small =
    let s = c.args.s.now in
    let spans : c.span-span.result ≡ 2 ^ s.table.k = c.span-span.ensures.0 ∙ span_of_lem s.table.k small in
    tabulated _ _ _ 64 0 (shown_at s.table.k s.table.rule s.last c.args.anew (marks_of s)) c.from_fn.ensures.items (λ i y q lt r. search rules)
