-- The lines are made card by card.
use Rattle.std.proofs.Common.{rules}
use Rattle.cards.proofs.Chains.{tabulated}
use Rattle.report.specs.Report.{no_line, line_at}
use Rattle.report.proofs.all_lines.Goals as goal

pub returns : goal.returns
returns c = tabulated _ _ c.from_fn.result 64 no_line (line_at c.args.t.now) c.from_fn.ensures.items (λ i y q lt r. search rules)
