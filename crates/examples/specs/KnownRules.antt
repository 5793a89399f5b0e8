-- The known settlings of document 01 that name a rule, P8 to P10, as states that the rule comes to: the cards 2, 5 and 6 at k = 3, and the events up
-- to there. The rows of `lines` have the same settlings as numbers alone. Assumes nothing.
use Rattle.std.specs.Prelude.{ℕ, List, [], ◌∷◌, ◌++◌, replicate}
use Rattle.arbiter.specs.Arbitrate.{competing, settling_of}
use Rattle.arbiter.specs.State.{waits, count_of, lines_of, with_value, fresh_of}
use Rattle.state.specs.declared.RackState.{RackState}
use Rattle.cards.specs.Below.{rows_below}
use Rattle.cards.specs.declared.Table.{Table}
use Rattle.lines.specs.Known.{Known, row_from, row}
use Rattle.lines.specs.Settling.{trail}
use Rattle.examples.specs.Listing.{Q, A, R}
use Rattle.promises.specs.Runs.{Event, after}

-- the rule and the events; then the last winner, the cards that wait, by rising number, with their counts; and their settling
pub record Ruled : Type 0 where
  pub rule : ℕ
  pub events : List Event
  pub last : ℕ
  pub waiting : List ℕ
  pub counts : List ℕ
  pub settling : Known

unfoldable pub ruled : ℕ → List Event → ℕ → List ℕ → List ℕ → Known → Ruled
ruled rule events last waiting counts settling =
    record { rule = rule; events = events; last = last; waiting = waiting; counts = counts; settling = settling }

-- the cards 2, 5 and 6 in the slots 1, 2 and 3, as in the listing
unfoldable pub three_cards : ℕ → Table
three_cards rule = record { k = 3; rule = rule; slots = 0 ∷ 0 ∷ 1 ∷ 0 ∷ 0 ∷ 2 ∷ 3 ∷ replicate 57 0 }

-- the settling of a state: the competing numbers and the lines that the rule makes, the lines after each stage, the stages and how many equal the lines
unfoldable pub settling_in : RackState → Known
unfolding row_from
settling_in s =
    row_from s.value (competing s) (lines_of s) (trail (lines_of s) (competing s) s.value (settling_of s).stages) (settling_of s).stages (settling_of s).matches

-- A row, with all but its rule and its events worked out by the definitions. Document 01 has lines at 0 before each settling, so the kept value is
-- put back to 0 here.
unfoldable pub played : Ruled → Ruled
unfolding ruled three_cards settling_in
played r =
    let s = with_value (after (fresh_of (three_cards r.rule)) r.events) 0 in
    ruled r.rule r.events s.last (rows_below 64 (waits s) (λ a. a ∷ [])) (rows_below 64 (waits s) (λ a. count_of s a ∷ [])) (settling_in s)

-- each row's events begin with those of the row before
unfoldable pub all_ask : List Event
all_ask = Q 2 ∷ Q 5 ∷ Q 6 ∷ []

unfoldable pub six_again : List Event
six_again = all_ask ++ (A ∷ Q 6 ∷ R 6 ∷ [])

unfoldable pub five_done : List Event
five_done = six_again ++ (A ∷ R 5 ∷ [])

unfoldable pub known_rules : List Ruled
unfolding ruled row
known_rules =
    ruled 0 all_ask 0 (2 ∷ 5 ∷ 6 ∷ []) (0 ∷ 0 ∷ 0 ∷ []) (row (2 ∷ 5 ∷ 6 ∷ []) 3 (0 ∷ 7 ∷ 6 ∷ []) 2 1)
    ∷ ruled 1 six_again 6 (2 ∷ 5 ∷ 6 ∷ []) (0 ∷ 0 ∷ 0 ∷ []) (row (10 ∷ 13 ∷ 6 ∷ []) 4 (0 ∷ 15 ∷ 12 ∷ 13 ∷ []) 3 1)
    ∷ ruled 2 five_done 5 (2 ∷ 6 ∷ []) (2 ∷ 1 ∷ []) (row (18 ∷ 14 ∷ []) 6 (0 ∷ 30 ∷ 16 ∷ 18 ∷ []) 3 1)
    ∷ []
