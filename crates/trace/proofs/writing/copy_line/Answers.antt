-- `trace::writing::copy_line` meets its contract. Assumes nothing.
use Rattle.std.proofs.Common.{◌≡◌, ◌∙◌, refl, length, add-one, arith}
use Rattle.trace.proofs.Copied.{copied_next, copied_whole}
use Rattle.trace.proofs.writing.copy_line.Goals as goal

pub loop-i-preserved : goal.loop-i-preserved
loop-i-preserved c =
    rw (c.loop-i.invariant, add-one) (copied_next c.args.line.now c.args.to.now c.loop-i.i _ (omega arith) (omega arith) refl)

pub returns : goal.returns
returns c = c.loop-i.invariant ∙ copied_whole c.args.line.now c.args.to.now c.loop-i.i (omega arith) (omega arith)
