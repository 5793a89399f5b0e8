-- How many cards wait: counted from the front, as an iterator does, and by number. Assumes nothing.
use Prim.Native.Nat.{ℕ, ◌+◌}
use native.Mathlib.Numerals.{add-one}
use native.Mathlib.Omega.{arith}
use mathlib.Core.Bool.{Bool, false, cond}
use mathlib.Core.List.{List}
use mathlib.Core.Path.{◌≡◌, refl, sym, ap, ◌∙◌}
use lib.ListN.{length}
use Rattle.std.proofs.lemmas.List.{take_all}
use Rattle.std.specs.List.{count_by}
use Rattle.arbiter.specs.State.{recount}
use Rattle.cards.proofs.Chains.{count_of_list}
use Rattle.cards.specs.Below.{sum_below, count_below}

pub recounted : (waiting : List Bool) → length waiting ≡ 64 → count_by (λ waits. waits) waiting ≡ recount waiting
recounted waiting size =
    ap (count_by (λ waits. waits)) (sym (take_all 64 waiting (omega arith))) ∙ count_of_list (λ waits. waits) waiting false 64 (omega arith)

-- and by a sum: with no place passed, and with the next
pub counted_none : (marked : ℕ → Bool) → 0 ≡ count_below 0 marked
unfolding sum_below
counted_none marked = refl

pub counted_next : (marked : ℕ → Bool) (count a one : ℕ) → count ≡ count_below a marked → one ≡ cond (marked a) 1 0 → count + one ≡ count_below (a + 1) marked
unfolding sum_below
counted_next marked count a one counted is = rw (add-one a, ← counted, is)
