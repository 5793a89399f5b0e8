-- `lines::applied_by` meets its contract: each step doubles the reach of the conflict. Assumes nothing.
use Rattle.std.proofs.Common.{arith}
use Rattle.lines.proofs.Conflict.{conflict}
use Rattle.lines.proofs.Smear.{reach_one, reach_twice, applied_smeared}
use Rattle.lines.proofs.applied_by.Goals as goal

pub returns : goal.returns
returns c m fits small =
    let lines = c.args.lines in
    let own = c.args.own in
    let x = conflict lines own in
    let two = reach_twice 1 x x (reach_one x) in
    let four = reach_twice 2 _ x two in
    let eight = reach_twice 4 _ x four in
    rw (reach_twice 8 _ x eight) (applied_smeared m 16 lines own fits small (omega arith))
