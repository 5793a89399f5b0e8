-- A number in so many digits is so many bytes long. Assumes nothing.
use Prim.Native.Nat.{ℕ, zero, suc, ◌/◌}
use native.Mathlib.Omega.{arith}
use mathlib.Core.Path.{◌≡◌, refl}
use lib.ListN.{length, length-append}
use Rattle.report.specs.Text.{digits_of}

pub digits_length : (width n : ℕ) → length (digits_of width n) ≡ width
unfolding digits_of
digits_length zero n = refl
digits_length (suc width) n = rw (length-append, digits_length width (n / 10)) (omega arith)
