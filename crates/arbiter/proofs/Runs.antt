-- A run with more events at its end. Assumes nothing.
use mathlib.Core.Bool.{cond}
use mathlib.Core.List.{List, [], ◌∷◌, ◌++◌, append_assoc, append-nil}
use mathlib.Core.Path.{◌≡◌, refl}
use Rattle.arbiter.specs.Runs.{Event, next, winner, after, is_grant, grants}
use Rattle.state.specs.declared.RackState.{RackState}

pub after_more : (s : RackState) (es : List Event) (e : Event) → after s (es ++ (e ∷ [])) ≡ next (after s es) e
unfolding after
after_more s [] e = refl
after_more s (x ∷ es) e = after_more (next s x) es e

pub after-append : (s : RackState) (es fs : List Event) → after s (es ++ fs) ≡ after (after s es) fs
unfolding after
after-append s [] fs = refl
after-append s (x ∷ es) fs = after-append (next s x) es fs

pub grants_more : (s : RackState) (es : List Event) (e : Event)
    → grants s (es ++ (e ∷ [])) ≡ grants s es ++ cond (is_grant (after s es) e) (winner (after s es) e ∷ []) []
unfolding after grants
grants_more s [] e = append-nil _
grants_more s (x ∷ es) e = rw (grants_more (next s x) es e, append_assoc)
