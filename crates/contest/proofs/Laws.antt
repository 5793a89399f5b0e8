-- Laws of what is shown, which the proofs of the contest cite. Assumes nothing.
use Prim.Native.Nat.{ℕ, ◌≤◌, ◌<◌}
use mathlib.Core.Bool.{Bool, true, false, cond}
use mathlib.Core.List.{List}
use mathlib.Core.Logic.{◌⊎◌, inl, inr}
use mathlib.Core.Path.{◌≡◌, refl, sym}
use borrow.Author.Tests.{lt-leb}
use Rattle.cards.proofs.Below.{le_or_lt}
use Rattle.lines.specs.Settle.{refusal, settled_or}
use Rattle.rules.proofs.Laws.{other_rule}
use Rattle.rules.specs.Rules.{lines_given, number_by}

-- under which nothing is shown
pub nothing_shown : (b : Bool) (k rule last count a : ℕ) → (rule ≡ 0 → ⊥) → (rule ≡ 1 → ⊥) → (rule ≡ 2 → ⊥) → (rule ≡ 3 → ⊥) → (rule ≡ 4 → ⊥)
    → 0 ≡ cond b (number_by k rule last count a) 0
unfolding number_by
nothing_shown true k rule last count a p q r u v = sym (other_rule {A = ℕ} rule _ _ _ _ _ 0 p q r u v)
nothing_shown false k rule last count a p q r u v = refl

-- on no lines every list is refused, so that what is shown matters only for a width of at most 6
pub settled_as_shown : (k rule : ℕ) (numbers shown : List ℕ) (start : ℕ) → (k ≤ 6 → numbers ≡ shown)
    → settled_or (refusal (lines_given k rule) numbers start 13) (lines_given k rule) numbers start
    ≡ settled_or (refusal (lines_given k rule) shown start 13) (lines_given k rule) shown start
unfolding lines_given refusal
settled_as_shown k rule numbers shown start same = go (le_or_lt k 6)
  where
    go : (k ≤ 6) ⊎ (6 < k)
        → settled_or (refusal (lines_given k rule) numbers start 13) (lines_given k rule) numbers start
        ≡ settled_or (refusal (lines_given k rule) shown start 13) (lines_given k rule) shown start
    go (inl small) = rw (same small)
    go (inr wide) = rw (lt-leb k 6 wide)
