-- A run of events: the state after them, and the grants among them. The trace, the tally and the promises speak of the same run. Assumes nothing.
use Rattle.std.specs.Prelude.{ℕ, Bool, cond, List, [], ◌∷◌, ◌++◌, ltb}
use Rattle.arbiter.specs.Arbitrate.{event_of}
use Rattle.arbiter.specs.Outcome.{Outcome}
use Rattle.state.specs.declared.RackState.{RackState}

-- any event: any letter with any number
pub record Event : Type 0 where
  pub letter : ℕ
  pub number : ℕ

abbrev pub outcome_of : RackState → Event → Outcome
outcome_of s e = event_of s e.letter e.number

abbrev pub next : RackState → Event → RackState
next s e = (outcome_of s e).state

-- the winner that the event reports, 0 for none
abbrev pub winner : RackState → Event → ℕ
winner s e = (outcome_of s e).winner

-- the state after the events
unfoldable pub after : RackState → List Event → RackState
after s [] = s
after s (e ∷ es) = after (next s e) es

-- the event is a grant or an election, which counts as one: it reports a winner
abbrev pub is_grant : RackState → Event → Bool
is_grant s e = ltb 0 (winner s e)

-- the winners of the grants among the events, elections with them, in their order
unfoldable pub grants : RackState → List Event → List ℕ
grants s [] = []
grants s (e ∷ es) = cond (is_grant s e) (winner s e ∷ []) [] ++ grants (next s e) es
