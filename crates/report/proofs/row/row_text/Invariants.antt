-- The number and the entries so far stand at the front, and the rest is as it was. Assumes nothing.
use Rattle.std.proofs.Common.{◌+◌, ◌*◌, ◌≤◌, ◌≡◌, ◌++◌, length, drop}
use Rattle.report.proofs.row.row_text.Given as goal
use Rattle.report.specs.Text.{row_front}

abbrev pub invariant-loop-c : goal.invariant-loop-c
invariant-loop-c l = record {
  near : l.at ≤ 2 + 6 * l.c;
  place : l.at ≡ length (row_front l.number l.fn.slots l.row l.c);
  size : length l.line ≡ 387;
  so_far : l.line ≡ row_front l.number l.fn.slots l.row l.c ++ drop l.at l.initial.line;
}
