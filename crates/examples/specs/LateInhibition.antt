-- The fault of document 000 that request A8 cures: early election with the inhibition still set at release, as request A1 has it. It is the rack's own
-- event but for the inhibited cards. Assumes nothing.
use Rattle.std.specs.Prelude.{ℕ, Bool, true, cond, List, [], ◌∷◌, ◌++◌, ◌≡◌, eqb}
use Rattle.arbiter.specs.Arbitrate.{inhibited_now, inhibited_by, by_letter}
use Rattle.arbiter.specs.State.{waits, with_sets}
use Rattle.state.specs.declared.RackState.{RackState}
use Rattle.promises.specs.Runs.{Event, outcome_of, next, winner, is_grant}

-- a done arbitration clears inhibitions where it must, and sets none; a done release inhibits its card
unfoldable pub late_inhibited : RackState → Event → List Bool
late_inhibited s e =
    cond (eqb (outcome_of s e).answer 0)
    (by_letter e.letter s.inhibited (inhibited_now s) (inhibited_by s.table.rule s.inhibited e.number) s.inhibited)
    s.inhibited

unfoldable pub late_next : RackState → Event → RackState
late_next s e = with_sets (next s e) (next s e).batch (late_inhibited s e)

unfoldable pub late_after : RackState → List Event → RackState
late_after s [] = s
late_after s (e ∷ es) = late_after (late_next s e) es

-- the winners of the grants and elections among the events, in their order
unfoldable pub late_grants : RackState → List Event → List ℕ
late_grants s [] = []
late_grants s (e ∷ es) = cond (is_grant s e) (winner s e ∷ []) [] ++ late_grants (late_next s e) es

-- the card waits throughout the events
unfoldable pub LateWaits : ℕ → RackState → List Event → Type 0
LateWaits a s [] = Unit
LateWaits a s (e ∷ es) = (waits s a ≡ true) × LateWaits a (late_next s e) es
