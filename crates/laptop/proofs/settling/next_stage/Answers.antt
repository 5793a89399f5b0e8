-- What the numbers passed apply is joined, and the rest of the list is to be joined to it. Assumes nothing.
use Rattle.std.proofs.Common.{arith}
use Rattle.lines.proofs.Join.{joined_none, joined_next, joined_all}
use Rattle.lines.proofs.Words.{words-length}
use Rattle.laptop.proofs.settling.next_stage.Goals as goal

pub loop-i-init : goal.loop-i-init
loop-i-init c = joined_none _ _

pub word_at-requires : goal.word_at-requires
word_at-requires c = omega (arith, c.loop-i-test.true, words-length c.args.numbers.now)

pub loop-i-preserved : goal.loop-i-preserved
loop-i-preserved c =
    joined_next c.loop-i.invariant _ _ (omega (arith, c.loop-i-test.true, words-length c.args.numbers.now)) c.word_at.ensures c.applied_by-joined.ensures

pub returns : goal.returns
returns c = joined_all c.loop-i.invariant (omega (arith, c.loop-i-test.false, words-length c.args.numbers.now))
