-- The number, entry after entry, and the newline.
use Rattle.std.proofs.Common.{◌≡◌, ◌∙◌, get_or, arith}
use Rattle.report.proofs.Rows.{entry_short, front_first, front_put, next_length, next_put, row_put}
use Rattle.report.proofs.row.row_text.Goals as goal

pub loop-c-init : goal.loop-c-init
loop-c-init c = record {
  near = omega arith;
  place = front_first c.args.number c.args.slots c.args.row;
  size = omega arith;
  so_far = front_put c.args.number c.args.slots c.args.row c.args.line.now _ (rw c.from.ensures at c.put_digits.ensures);
}

pub loop-c-preserved : goal.loop-c-preserved
loop-c-preserved c =
    let n = c.loop-c.c in
    let put = c.put_entry-at in
    let inv = c.loop-c.invariant in
    record {
      near = omega (arith, entry_short (get_or c.args.slots n 0) (get_or c.args.row n 0));
      place = omega (arith, next_length c.args.number c.args.slots c.args.row n);
      size = put.auto.line ∙ inv.size;
      so_far = next_put c.args.number c.args.slots c.args.row n _ c.loop-c.line _ c.loop-c.at _ inv.place inv.so_far put.ensures;
    }

pub returns : goal.returns
returns c =
    let inv = c.loop-c.invariant in
    let past : c.loop-c.c ≡ 64 = omega arith in
    row_put c.args.number c.args.slots c.args.row c.args.line.now _ c.loop-c.line c.loop-c.at
    (rw past at inv.place) (omega arith) (rw c.from.ensures at c.put_digits.ensures) (rw past at inv.so_far)
