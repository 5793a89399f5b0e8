-- `rack::marks::waiters_ok` meets its contract: `count` counts the cards passed, at most one for each place. Assumes nothing.
use Rattle.std.proofs.Common.{rules, tests, arith, ◌+◌}
use Rattle.cards.proofs.Counted.{count_most}
use Rattle.rack.proofs.Recount.{counted_none, counted_next}
use Rattle.rules.specs.Marks.{is_in}
use Rattle.rack.proofs.marks.waiters_ok.Goals as goal

pub loop-waits-init : goal.loop-waits-init
loop-waits-init c = counted_none (is_in c.args.s.now.waiting)

pub overflow_add-count : goal.overflow_add-count
overflow_add-count c =
    let marked = is_in c.args.s.now.waiting in
    omega (arith, counted_next marked _ c.loop-waits.waits-index c.from-count.result c.loop-waits.invariant (search (rules, tests)), count_most (c.loop-waits.waits-index + 1) marked)

pub loop-waits-preserved : goal.loop-waits-preserved
loop-waits-preserved c = counted_next (is_in c.args.s.now.waiting) _ _ _ c.loop-waits.invariant (search (rules, tests))
