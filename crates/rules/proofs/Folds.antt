-- What a fold over the numbers below n gives, where it joins a test of each by `or`. Assumes nothing.
use Rattle.std.proofs.Common.{ℕ, Bool, false, Option, List, [], ◌∷◌, ◌≡◌, ◌∙◌, ◌||◌, refl}
use denote.Param.Members.{Mut}
use mathlib.Core.Bool.{or-false}
use Rattle.std.proofs.lemmas.Fn.{fold_over}
use Rattle.std.proofs.lemmas.Iterator.{YieldsList}
use Rattle.std.proofs.lemmas.List.Folds.{list_any-append}
use Rattle.std.specs.Fn.{Called}
use Rattle.std.specs.Iterator.{Drains}
use Rattle.std.specs.List.{FoldsTo, list_any, range_with_len}
use Rattle.cards.proofs.Chains.{any_listed}
use Rattle.cards.specs.Below.{any_below}

pub any_folded : {S F : Type 0} (steps : S → Option ℕ → S → Type 0) (g : Mut F (Bool × (ℕ × Unit {0})) Bool) (f : F) (test : ℕ → Bool) (n : ℕ) (s : S) (r : Bool)
    → YieldsList steps (λ x. x) s (range_with_len 0 n)
    → ((some : Bool) (a : ℕ) (b : Bool) (q : F) → Called g f (some, (a, tt)) b q → (q ≡ f) × (b ≡ (some || test a)))
    → (xs : List ℕ) × (q : F) × Drains steps s xs × FoldsTo {P = F × Bool} (λ p x q. Called g p.0 (p.1, (x, tt)) q.1 q.0) (f, false) xs (q, r)
    → r ≡ any_below n test
any_folded steps g f test n s r yields joins ran =
    fold_over steps (λ x. x) g (λ ys some. some ≡ list_any test ys) f
    (λ ys some a b q before called.
    let one = joins some a b q called in
    (rw (list_any-append test ys (a ∷ []), or-false (test a), ← before) one.1, one.0))
    s (range_with_len 0 n) false r yields.runs refl ran
    ∙ any_listed test n
