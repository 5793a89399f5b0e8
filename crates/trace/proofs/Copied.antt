-- A line that is copied one byte after another. Assumes nothing.
use Prim.Native.Nat.{ℕ, suc, ◌<◌}
use native.Mathlib.Nat.{zero-add}
use native.Mathlib.Omega.{arith}
use mathlib.Core.List.{List, [], ◌++◌, append-nil}
use mathlib.Core.Path.{◌≡◌, ◌∙◌}
use lib.ListN.{length, get_or, take, drop, set}
use lib.Seq.{paste-suc, take_all}
use Rattle.std.proofs.lemmas.List.{drop_all}

-- a turn: byte i of the line is put after the i bytes before it
pub copied_next : (line to : List ℕ) (i v : ℕ) → i < length line → i < length to → v ≡ get_or line i 0
    → set (take i line ++ drop i to) i v ≡ take (suc i) line ++ drop (suc i) to
copied_next line to i v less room e = rw e (simp zero-add at (paste-suc to 0 line i 0 (rw zero-add room) less))

-- the end: the line, and nothing after it
pub copied_whole : (line to : List ℕ) (i : ℕ) → i ≡ length line → length to ≡ length line → take i line ++ drop i to ≡ line
copied_whole line to i all long =
    let whole : take i line ≡ line = take_all i line (omega arith) in
    let past : drop i to ≡ [] = drop_all i to (omega arith) in
    rw (whole, past, append-nil)
