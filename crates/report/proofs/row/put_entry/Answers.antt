-- Nothing, or the space and the digits.
use Rattle.std.proofs.Common.{◌∙◌, arith}
use Rattle.report.proofs.Rows.{entry_none, entry_some, nothing_put, entry_put}
use Rattle.report.proofs.row.put_entry.Goals as goal
use Rattle.report.specs.Text.{digits_of}

pub returns-then-slot-eq0 : goal.returns-then-slot-eq0
returns-then-slot-eq0 c = rw (entry_none c.args.entry c.if-slot-eq0.true) (omega arith, nothing_put c.args.line.now c.args.at)

pub returns : goal.returns
unfolding digits_of
returns c =
    rw (entry_some c.args.entry c.if-slot-eq0.false)
    (omega arith, rw c.from.ensures at c.put_digits.ensures ∙ entry_put c.args.line.now c.args.at c.args.entry c.requires)
