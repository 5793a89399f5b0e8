-- A run of counted events: the state, the tally and the square, and beside them the history of the done events. Assumes nothing.
use Rattle.std.specs.Prelude.{ℕ, cond, List, [], ◌∷◌, eqb}
use Rattle.arbiter.specs.Arbitrate.{by_letter}
use Rattle.arbiter.specs.Runs.{Event, outcome_of}
use Rattle.arbiter.specs.State.{fresh_of}
use Rattle.arbiter.specs.Outcome.{Outcome}
use Rattle.state.specs.declared.RackState.{RackState}
use Rattle.cards.specs.declared.Table.{Table}
use Rattle.tally.specs.History.{Happening, asked, granted, released, History}
use Rattle.tally.specs.Tally.{Square, square_after, counted_of, zero_tally, zero_square}
use Rattle.tally.specs.declared.Tally.{Tally}

pub record Ledger : Type 0 where
  pub state : RackState
  pub tally : Tally
  pub square : Square
  pub past : History

-- a fresh state, a zero tally and a zero square
abbrev pub start : Table → Ledger
start t = record { state = fresh_of t; tally = zero_tally; square = zero_square; past = [] }

-- what a done event was, by its letter
abbrev pub happened : ℕ → ℕ → Outcome → Happening
happened letter a o = by_letter letter (asked a) (granted o.winner) (released a) (released a)

-- the history after an outcome: a refused event is not in it
abbrev pub past_after : ℕ → ℕ → Outcome → History → History
past_after letter a o past = cond (eqb o.answer 0) (happened letter a o ∷ past) past

unfoldable pub next : Ledger → ℕ → ℕ → Ledger
next g letter a =
    let c = counted_of g.tally g.square g.state letter a in
    record {
      state = c.outcome.state;
      tally = c.tally;
      square = square_after g.square c.outcome;
      past = past_after letter a c.outcome g.past;
    }

-- through any events, in their order
unfoldable pub run : Ledger → List Event → Ledger
run g [] = g
run g (e ∷ es) = run (next g e.letter e.number) es

-- the history of the rack's own run, with no tally beside it: what the done events add to a past
unfoldable pub history_from : History → RackState → List Event → History
history_from past s [] = past
history_from past s (e ∷ es) = history_from (past_after e.letter e.number (outcome_of s e) past) (outcome_of s e).state es

abbrev pub history_of : RackState → List Event → History
history_of s es = history_from [] s es
