-- Loading by the length of the file: what a file that is too short, too long or neither is given. Assumes nothing.
use Prim.Native.Nat.{ℕ, ◌≤◌, ◌<◌}
use native.Mathlib.Omega.{arith}
use mathlib.Core.Bool.{and-false}
use mathlib.Core.List.{List}
use mathlib.Core.Path.{◌≡◌}
use lib.ListN.{length}
use borrow.Author.Tests.{lt-leb, le-leb}
use Rattle.cardfile.specs.Format.{refuse_unless, refused_with, header_of, header_read, load_table_of}

module _ (file : List ℕ) where
  pub too_short : length file < 12 → load_table_of file ≡ refused_with 1
  unfolding load_table_of refuse_unless
  too_short short = grind (arith, lt-leb)

  pub too_long : 8192 < length file → load_table_of file ≡ refused_with 1
  unfolding load_table_of refuse_unless
  too_long long = grind (arith, lt-leb, and-false)

  pub long_enough : 12 ≤ length file → length file ≤ 8192 → load_table_of file ≡ header_read (header_of file) file
  unfolding load_table_of refuse_unless
  long_enough enough most = grind (arith, le-leb)

pub ruleset lengths = (too_short, too_long, long_enough)
