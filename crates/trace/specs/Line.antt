-- A line of the trace, its event, and the line of the listing that answers it, as document 01 has them ('The trace listing'). Assumes nothing.
use Rattle.std.specs.Prelude.{ℕ, ◌+◌, ◌-◌, ◌*◌, ◌/◌, ◌%◌, Bool, true, false, cond, ◌&&◌, List, [], ◌∷◌, Option, Some, None, leb, eqb, length, get_or}
use Rattle.arbiter.specs.Arbitrate.{arbitrate_of, by_letter}
use Rattle.arbiter.specs.Events.{answered, request_of, release_of}
use Rattle.arbiter.specs.Outcome.{Outcome}
use Rattle.state.specs.declared.RackState.{RackState}
use Rattle.trace.specs.declared.Event.{Event}
use Rattle.trace.specs.declared.Event.TheVariants.{Request, Arbitrate, Release}

-- what a line asks for; nothing where it is malformed
abbrev pub Line : Type 0
Line = Option Event

abbrev pub is_digit : ℕ → Bool
is_digit b = leb 48 b && leb b 57

-- a space, two decimal digits, a newline
unfoldable pub shaped : ℕ → ℕ → ℕ → ℕ → Bool
shaped gap tens ones end = eqb gap 32 && is_digit tens && is_digit ones && eqb end 10

abbrev pub two_digits : ℕ → ℕ → ℕ
two_digits tens ones = (tens - 48) * 10 + (ones - 48)

-- what a digit counts; nothing for any other byte
abbrev pub digit_of : ℕ → Option ℕ
digit_of b = cond (is_digit b) (Some (b - 48)) None

-- Q, A or R with its number; A has 00
abbrev pub event_by : ℕ → ℕ → Line
event_by letter number =
    by_letter letter
    (Some (Request number))
    (cond (eqb number 0) (Some Arbitrate) None)
    (Some (Release number))
    None

unfoldable pub line_of : ℕ → ℕ → ℕ → ℕ → ℕ → Line
line_of letter gap tens ones end = cond (shaped gap tens ones end) (event_by letter (two_digits tens ones)) None

-- five bytes are a line, and any other number of bytes is none
abbrev pub parse_of : List ℕ → Line
parse_of bytes = cond (eqb (length bytes) 5) (line_of (get_or bytes 0 0) (get_or bytes 1 0) (get_or bytes 2 0) (get_or bytes 3 0) (get_or bytes 4 0)) None

-- a malformed line ends the listing
abbrev pub is_malformed : Line → Bool
is_malformed (Some event) = false
is_malformed None = true

-- what the line's event gives; a malformed line gets 18
unfoldable pub line_outcome : RackState → Line → Outcome
line_outcome s (Some (Request n)) = request_of s n
line_outcome s (Some Arbitrate) = arbitrate_of s
line_outcome s (Some (Release n)) = release_of s n
line_outcome s None = answered s 18

abbrev pub last_digit : ℕ → ℕ
last_digit x = x % 10 + 48

-- the event's four characters, the answer (2 digits), winner (2), settled lines (4), stages (2) and how many competing numbers equal the lines (2),
-- parted by one space, and a newline
unfoldable pub text_of : ℕ → ℕ → ℕ → ℕ → ℕ → ℕ → ℕ → ℕ → ℕ → List ℕ
text_of a b c d answer winner lines stages matches =
    a ∷ b ∷ c ∷ d ∷ 32
    ∷ last_digit (answer / 10) ∷ last_digit answer ∷ 32
    ∷ last_digit (winner / 10) ∷ last_digit winner ∷ 32
    ∷ last_digit (lines / 1000) ∷ last_digit (lines / 100) ∷ last_digit (lines / 10) ∷ last_digit lines ∷ 32
    ∷ last_digit (stages / 10) ∷ last_digit stages ∷ 32
    ∷ last_digit (matches / 10) ∷ last_digit matches ∷ 10 ∷ []

-- of the event's four characters in a list
abbrev pub text_for : List ℕ → ℕ → ℕ → ℕ → ℕ → ℕ → List ℕ
text_for event = text_of (get_or event 0 0) (get_or event 1 0) (get_or event 2 0) (get_or event 3 0)

-- a malformed line prints ---- in the place of its characters
unfoldable pub line_text : ℕ → ℕ → ℕ → ℕ → Line → ℕ → ℕ → ℕ → ℕ → ℕ → List ℕ
line_text a b c d line answer winner lines stages matches =
    cond (is_malformed line) (text_of 45 45 45 45 answer winner lines stages matches) (text_of a b c d answer winner lines stages matches)
