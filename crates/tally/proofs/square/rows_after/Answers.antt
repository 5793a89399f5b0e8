-- The rows are changed one after another, and each has room at the winner's place.
use Rattle.std.proofs.Common.{rules, ap, ◌∙◌, arith, List, ℕ, false, get_or}
use Rattle.tally.proofs.Laws.{row_room}
use Rattle.tally.proofs.Rows.{none_changed, one_changed, all_changed}
use Rattle.tally.specs.Tally.{row_after}
use Rattle.tally.proofs.square.rows_after.Goals as goal

pub loop-b-init : goal.loop-b-init
loop-b-init c = none_changed _ _ (search rules)

pub count_wait-requires : goal.count_wait-requires
count_wait-requires c =
    let b = c.loop-b.b in
    (c.requires.0, rw (c.loop-b.invariant.rest b (omega arith)) (row_room c.args.q c.args.w b c.requires.1 c.loop-b-test.true))

pub loop-b-preserved : goal.loop-b-preserved
loop-b-preserved c =
    let b = c.loop-b.b in
    one_changed _ _ b _ _ c.loop-b-test.true c.loop-b.invariant
    (c.count_wait.ensures ∙ ap (λ (row : List ℕ). row_after row (get_or c.args.waiting.now b false) c.args.w) (c.loop-b.invariant.rest b (omega arith)))

pub returns : goal.returns
returns c = all_changed _ _ c.loop-b.b _ (omega arith) c.loop-b.invariant
