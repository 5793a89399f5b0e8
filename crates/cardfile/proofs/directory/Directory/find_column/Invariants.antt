-- `found` is the column among the entries passed.
use Rattle.std.proofs.Common.{◌≡◌}
use Rattle.cardfile.proofs.directory.Directory.find_column.Given as goal
use Rattle.cardfile.specs.Format.{name_at, column_of}

abbrev pub invariant-loop-j : goal.invariant-loop-j
invariant-loop-j l = l.found ≡ column_of l.self.bytes.now (name_at l.fn.name 0) l.j
