-- The report's lines, as docs/REPORT.md has them. Assumes nothing.
use Rattle.std.specs.Prelude.{ℕ, zero, suc, ◌+◌, ◌/◌, ◌%◌, cond, not, List, [], ◌∷◌, ◌++◌, eqb, get_or, take, drop}
use Rattle.cards.specs.Below.{rows_below}
use Rattle.cards.specs.Table.{has_card}
use Rattle.report.specs.declared.CardLine.{CardLine}

-- n in so many decimal digits, with zeros in front: where it has more, the last of them. In a report none has more. At most 65,535 events are counted,
-- and 41 refuses figures that exceed them and a sum of squares that exceeds their square: so grants and sum are at most 65,535, the sum of squares and
-- the grants squared at most 65,535 ^ 2 = 4,294,836,225, which has ten digits, and grants times squares is below 10 ^ 15.
unfoldable pub digits_of : ℕ → ℕ → List ℕ
digits_of zero n = []
digits_of (suc width) n = digits_of width (n / 10) ++ ((n % 10 + 48) ∷ [])

-- a line that has them at a place
abbrev pub with_digits : ℕ → ℕ → ℕ → List ℕ → List ℕ
with_digits at width n line = take at line ++ (digits_of width n ++ drop (at + width) line)

-- a space or a slash, and a number
abbrev pub spaced : ℕ → ℕ → List ℕ
spaced width n = 32 ∷ digits_of width n

abbrev pub over : ℕ → ℕ → List ℕ
over width n = 47 ∷ digits_of width n

abbrev pub newline : List ℕ
newline = 10 ∷ []

-- `end.` or `tab.`, why the counting ended, and the done events that were counted
unfoldable pub opening_text : ℕ → ℕ → ℕ → ℕ → ℕ → ℕ → List ℕ
opening_text a b c d answer events = (a ∷ b ∷ c ∷ d ∷ []) ++ spaced 2 answer ++ spaced 5 events ++ newline

-- SS NN GGGGG WWWWW/GGGGG QQQQQQQQQQ VVVVVVVVVVVVVVV/DDDDDDDDDD: slot, number, grants, the mean wait, the sum of squared waits, the variance
unfoldable pub card_text : ℕ → ℕ → CardLine → List ℕ
card_text slot number card =
    digits_of 2 slot ++ spaced 2 number
    ++ spaced 5 card.grants
    ++ spaced 5 card.sum ++ over 5 card.grants
    ++ spaced 10 card.squares
    ++ spaced 15 card.numerator ++ over 10 card.denominator
    ++ newline

-- A line of the square: its number, and for each card of the table, by rising number, a space and how many grants to that card left the card of the
-- line waiting.

-- what is written for a number with that slot: nothing where it is in no table
unfoldable pub entry_text : ℕ → ℕ → List ℕ
entry_text slot entry = cond (not (eqb slot 0)) (spaced 5 entry) []

-- the number, and the entries of the numbers below n
abbrev pub row_front : ℕ → List ℕ → List ℕ → ℕ → List ℕ
row_front number slots row n = digits_of 2 number ++ rows_below n (has_card slots) (λ c. spaced 5 (get_or row c 0))

unfoldable pub row_text : ℕ → List ℕ → List ℕ → List ℕ
row_text number slots row = row_front number slots row 64 ++ newline
