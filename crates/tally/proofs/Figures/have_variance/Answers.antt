-- The figures are small, so the second product fits 48 bits.
use Rattle.std.proofs.Common.{arith}
use Rattle.tally.proofs.Laws.{small_of, spread_small}
use Rattle.tally.proofs.Figures.have_variance.Goals as goal

pub overflow_mul-result-2 : goal.overflow_mul-result-2
overflow_mul-result-2 c = rw c.from-3.ensures (omega (arith, spread_small c.args.n c.args.self (omega arith) (small_of _ _ c.requires)))
