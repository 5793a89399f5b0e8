-- Where the figures and the square have room for a grant. Assumes nothing.
use Rattle.std.specs.Prelude.{ℕ, ◌*◌, ◌≤◌, ◌<◌, Bool, true, cond, ◌&&◌, ◌≡◌, ◌≢◌, ltb, Result, Ok, Err}
use Rattle.cards.specs.Below.{all_below}
use Rattle.arbiter.specs.Outcome.{Outcome, as_outcome}
use Rattle.rack.specs.declared.Done.{Done}
use Rattle.tally.specs.Tally.{Square, entry_of, row_good, is_grant, square_after}
use Rattle.tally.specs.declared.Figures.{Figures}

-- what `figures_small` tests
pub record Small (n : ℕ) (f : Figures) : Type 0 where
  pub grants : f.grants ≤ n
  pub sum : f.sum ≤ n
  pub running : f.running ≤ n
  pub squares : f.squares ≤ n * n

-- the row of b has room for one more at w
abbrev pub room_at : Square → ℕ → ℕ → Bool
room_at q w b = ltb (entry_of q b w) 65535

pub record SquareRoom (q : Square) (o : Outcome) : Type 0 where
  pub card : o.winner < 64
  pub room : is_grant o ≡ true → all_below 64 (room_at q o.winner) ≡ true

-- An event is counted on: the n events counted leave room, the winner is a number of a card, and no entry exceeds n.
abbrev pub counted_on : ℕ → Square → Outcome → Bool
counted_on n q o = ltb n 65535 && ltb o.winner 64 && all_below 64 (row_good n q)

-- The square after an outcome, for a caller that may hand in any square and any outcome: where no event is counted on, it is handed back as given.
unfoldable pub square_for : ℕ → Square → Outcome → Square
square_for n q o = cond (counted_on n q o) (square_after q o) q

-- The outcomes that an event stands for: a done one for its own, a refused one for each that refuses, whatever it answers and reports.
abbrev pub StandsFor : {E : Type 0} → Result Done E → Outcome → Type 0
StandsFor (Ok done) o = o ≡ as_outcome done.state (Ok done.reported)
StandsFor (Err why) o = o.answer ≢ 0
