-- The waiting report of the listing of document 01: its done events, and for each of its cards the figures, the variance and who it waited for. Assumes
-- nothing.
use Rattle.std.specs.Prelude.{ℕ, List, [], ◌∷◌, map}
use Rattle.arbiter.specs.Runs.{Event}
use Rattle.examples.specs.Listing.{Line, listing}
use Rattle.report.specs.declared.CardLine.{CardLine}
use Rattle.tally.specs.History.{asked, granted, released, History}

-- the listing's events, refused ones included
unfoldable pub events : List Event
unfolding listing
events = map (λ (l : Line). l.event) listing

-- those that were done, the latest first; an election is a grant
unfoldable pub past : History
past =
    released 6 ∷ released 2 ∷ granted 6 ∷ released 5 ∷ granted 2 ∷ released 6 ∷ granted 5
    ∷ asked 6 ∷ granted 6 ∷ asked 6 ∷ asked 5 ∷ asked 2 ∷ []

-- a card's number, its line of the report, and how many grants to each of the cards 2, 5 and 6 left it waiting
pub record Row : Type 0 where
  pub number : ℕ
  pub line : CardLine
  pub left : List ℕ

unfoldable pub row : ℕ → CardLine → List ℕ → Row
row number line left = record { number = number; line = line; left = left }

unfoldable pub line : ℕ → ℕ → ℕ → ℕ → ℕ → CardLine
line grants sum squares numerator denominator =
    record { grants = grants; sum = sum; squares = squares; numerator = numerator; denominator = denominator }

-- Card 2 waits for 6 and 5, card 5 for 6, and card 6 at its second request for 5 and 2: its waits are 0 and 2, so their variance is 4 over 4.
unfoldable pub report : List Row
unfolding row line
report =
    row 2 (line 1 2 4 0 1) (0 ∷ 1 ∷ 1 ∷ [])
    ∷ row 5 (line 1 1 1 0 1) (0 ∷ 0 ∷ 1 ∷ [])
    ∷ row 6 (line 2 2 4 4 4) (1 ∷ 1 ∷ 0 ∷ [])
    ∷ []
