-- What a fold over the elements of a list gives, where it joins a test of each by `and`. Assumes nothing.
use Rattle.std.proofs.Common.{Bool, true, Option, List, [], ◌∷◌, ◌≡◌, ◌&&◌, refl}
use denote.Param.Members.{Mut}
use mathlib.Core.Bool.{and-true}
use Rattle.std.proofs.lemmas.Fn.{fold_over}
use Rattle.std.proofs.lemmas.Iterator.{YieldsList}
use Rattle.std.proofs.lemmas.List.Folds.{list_all-append}
use Rattle.std.specs.Fn.{Called}
use Rattle.std.specs.Iterator.{Drains}
use Rattle.std.specs.List.{FoldsTo, list_all}

pub all_folded : {S A B F : Type 0} (steps : S → Option A → S → Type 0) (v : A → B) (g : Mut F (Bool × (A × Unit {0})) Bool) (f : F) (test : B → Bool) (items : List B)
    (s : S) (r : Bool)
    → YieldsList steps v s items
    → ((good : Bool) (x : A) (b : Bool) (q : F) → Called g f (good, (x, tt)) b q → (q ≡ f) × (b ≡ (good && test (v x))))
    → (xs : List A) × (q : F) × Drains steps s xs × FoldsTo {P = F × Bool} (λ p x q. Called g p.0 (p.1, (x, tt)) q.1 q.0) (f, true) xs (q, r)
    → r ≡ list_all test items
all_folded steps v g f test items s r yields joins ran =
    fold_over steps v g (λ ys good. good ≡ list_all test ys) f
    (λ ys good x b q before called.
    let one = joins good x b q called in
    (rw (list_all-append test ys (v x ∷ []), and-true (test (v x)), ← before) one.1, one.0))
    s items true r yields.runs refl ran
