-- A run reads no more than has arrived, and writes no more than the output holds. Assumes nothing.
use Rattle.std.proofs.Common.{arith, length-take}
use Rattle.racktrace.proofs.answered.Goals as goal
use Rattle.trace.proofs.Chunks.{read_within, written_within}

pub slice_bounds-write_all-end : goal.slice_bounds-write_all-end
slice_bounds-write_all-end g c = let most = written_within _ _ _ _ _ c.run-ran.ensures in omega (arith, most)

pub slice_bounds-write_all-end-2 : goal.slice_bounds-write_all-end-2
slice_bounds-write_all-end-2 g c =
    let most = written_within _ _ _ _ _ c.run-ran.ensures in
    omega (arith, most, length-take c.run-ran.result.written c.run-ran.new.output)

pub copy_within-requires-clause-start_le_end : goal.copy_within-requires-clause-start_le_end
copy_within-requires-clause-start_le_end g c =
    let most = read_within _ _ _ _ _ c.run-ran.ensures in
    omega (arith, most, length-take c.args.len c.args.input.now)

pub overflow_sub-result : goal.overflow_sub-result
overflow_sub-result g c =
    let most = read_within _ _ _ _ _ c.run-ran.ensures in
    omega (arith, most, length-take c.args.len c.args.input.now)
