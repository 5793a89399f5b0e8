-- A contract that admits one result: any two that it admits for one input are equal, and so are the last contents of all memory that was lent. A crate
-- says so of each of its public functions, in proofs/Determined.antt. Assumes nothing.
use Rattle.std.specs.Prelude.{◌≡◌}
use contract.Lifetimes.{Lfts}
use denote.Triple.Clauses.{Ended, Lasts, AtExit, at_exit}
use denote.Triple.Entry.{Args, Res}

-- Which results x a contract admits for the arguments a, with the parameters at exit e. The toolchain reads it off a function's `ensures`, as `Learnt`,
-- and has its parameters and result as `ended`.
abbrev pub Contract : Ended → Type 1
Contract T = (κ : Lfts T.signature.lifetimes) (a : Args T.signature κ) (x : Res T.signature κ) (e : AtExit T κ) → Type 0

-- `Lasts` has the last contents of each parameter that is lent by `&mut`, and nothing of the others.
abbrev pub Determined : (T : Ended) → Contract T → Type 0
Determined T Admits =
    (κ : Lfts T.signature.lifetimes) (a : Args T.signature κ) (x y : Res T.signature κ) (b c : Lasts T κ a)
    → Admits κ a x (at_exit T κ a b) → Admits κ a y (at_exit T κ a c) → (x ≡ y) × (b ≡ c)
