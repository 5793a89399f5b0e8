-- What the bytes of a trace ask for and what those of a listing tell, by their places in a line, as document 01 has them ('The trace listing'): so reads
-- who knows no program. Nothing here is made of `line_of`, `line_outcome` or `text_of`; that they mean the same is proved (proofs/Bytes.antt). Assumes nothing.
use Rattle.std.specs.Prelude.{ℕ, zero, suc, ◌+◌, ◌-◌, ◌*◌, Bool, cond, ◌&&◌, ◌||◌, List, [], ◌∷◌, ◌++◌, ◌≡◌, ltb, leb, eqb, get_or}
use Rattle.arbiter.specs.Runs.{Event}
use Rattle.arbiter.specs.Outcome.{Outcome}
use Rattle.cards.specs.Below.{all_below}

abbrev pub byte_at : List ℕ → ℕ → ℕ
byte_at bytes i = get_or bytes i 0

-- decimal digits, the greatest first, as a number: two of them and four
abbrev pub digit_at : List ℕ → ℕ → ℕ
digit_at bytes i = byte_at bytes i - 48

abbrev pub two_at : List ℕ → ℕ → ℕ
two_at bytes i = digit_at bytes i * 10 + digit_at bytes (i + 1)

abbrev pub four_at : List ℕ → ℕ → ℕ
four_at bytes i = two_at bytes i * 100 + two_at bytes (i + 2)

-- ---- a trace, five bytes a line

-- line n asks for a letter with a number
abbrev pub event_at : List ℕ → ℕ → Event
event_at trace n = record { letter = byte_at trace (5 * n); number = two_at trace (5 * n + 2) }

-- the letter is Q, A or R, and A has 00
unfoldable pub is_asked : Event → Bool
is_asked e = eqb e.letter 81 || (eqb e.letter 65 && eqb e.number 0) || eqb e.letter 82

abbrev pub is_digit_at : List ℕ → ℕ → Bool
is_digit_at bytes i = leb 48 (byte_at bytes i) && leb (byte_at bytes i) 57

-- a space, two decimal digits, a newline
unfoldable pub is_shaped : List ℕ → ℕ → Bool
is_shaped trace n =
    eqb (byte_at trace (5 * n + 1)) 32 && is_digit_at trace (5 * n + 2) && is_digit_at trace (5 * n + 3) && eqb (byte_at trace (5 * n + 4)) 10

-- line n is well formed
unfoldable pub is_line : List ℕ → ℕ → Bool
is_line trace n = is_shaped trace n && is_asked (event_at trace n)

-- the event of line n; none where a line up to there is malformed
abbrev pub event_on : List ℕ → ℕ → List Event
event_on trace n = cond (all_below (suc n) (is_line trace)) (event_at trace n ∷ []) []

-- the events of so many lines from line `from` on
unfoldable pub events_in : List ℕ → ℕ → ℕ → List Event
events_in trace from zero = []
events_in trace from (suc count) = events_in trace from count ++ event_on trace (from + count)

-- ---- a listing, 22 bytes a line: the event's four characters, the answer at 5, the winner at 8, the settled lines at 11, the stages at 16, how many
-- numbers equal the lines at 19

abbrev pub letter_at : List ℕ → ℕ → ℕ
letter_at text n = byte_at text (22 * n)

abbrev pub number_at : List ℕ → ℕ → ℕ
number_at text n = two_at text (22 * n + 2)

abbrev pub answer_at : List ℕ → ℕ → ℕ
answer_at text n = two_at text (22 * n + 5)

abbrev pub winner_at : List ℕ → ℕ → ℕ
winner_at text n = two_at text (22 * n + 8)

abbrev pub value_at : List ℕ → ℕ → ℕ
value_at text n = four_at text (22 * n + 11)

abbrev pub stages_at : List ℕ → ℕ → ℕ
stages_at text n = two_at text (22 * n + 16)

abbrev pub matches_at : List ℕ → ℕ → ℕ
matches_at text n = two_at text (22 * n + 19)

-- line n tells the event and its outcome
pub record Tells (text : List ℕ) (n : ℕ) (e : Event) (o : Outcome) : Type 0 where
  pub letter : letter_at text n ≡ e.letter
  pub number : number_at text n ≡ e.number
  pub answer : answer_at text n ≡ o.answer
  pub winner : winner_at text n ≡ o.winner
  pub lines : value_at text n ≡ o.lines
  pub stages : stages_at text n ≡ o.stages
  pub matches : matches_at text n ≡ o.matches

-- the winner of line n; none where it is 00
abbrev pub winner_on : List ℕ → ℕ → List ℕ
winner_on text n = cond (ltb 0 (winner_at text n)) (winner_at text n ∷ []) []

-- the winners of so many lines from line `from` on
unfoldable pub winners_in : List ℕ → ℕ → ℕ → List ℕ
winners_in text from zero = []
winners_in text from (suc count) = winners_in text from count ++ winner_on text (from + count)
