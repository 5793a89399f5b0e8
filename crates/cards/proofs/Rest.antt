-- A part of a list that goes to its end. Assumes nothing.
use Prim.Native.Nat.{ℕ, ◌-◌}
use native.Mathlib.Omega.{arith}
use mathlib.Core.List.{List}
use mathlib.Core.Path.{◌≡◌}
use lib.ListN.{length, take, drop, length-drop}
use lib.Seq.{take_all}

pub rest : (n : ℕ) (s : List ℕ) → take (length s - n) (drop n s) ≡ drop n s
rest n s = take_all (length s - n) (drop n s) (simp length-drop (omega arith))
