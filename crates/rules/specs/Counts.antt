-- The waiting counts of the cards, and how many cards wait. Assumes nothing.
use Rattle.std.specs.Prelude.{ℕ, ◌+◌, Bool, cond, not, ◌&&◌, List, ltb, leb, eqb, get_or}
use Rattle.cards.specs.Below.{tabulate}
use Rattle.rules.specs.Marks.{is_in}
use Rattle.rules.specs.Rules.{counts_losers}

-- One more, of at most `most`. The bound is for a caller who was told what is not so: no count of a well-formed state comes to it.
abbrev pub one_more_of : ℕ → ℕ → ℕ
one_more_of most n = cond (ltb n most) (n + 1) n

-- one card more waits, of at most 64
abbrev pub one_waits : ℕ → ℕ
one_waits n = one_more_of 64 n

-- a loser whose count is already `full`
abbrev pub full_loser : ℕ → List Bool → List ℕ → ℕ → ℕ → Bool
full_loser full waiting counts w a = not (eqb a w) && is_in waiting a && leb full (get_or counts a 0)

-- under rule 2 the count of each card that waits grows by 1, to at most 255, which is all that its byte holds
abbrev pub grown_at : List Bool → List ℕ → ℕ → ℕ
grown_at waiting counts a = cond (is_in waiting a) (one_more_of 255 (get_or counts a 0)) (get_or counts a 0)

unfoldable pub counts_grown : ℕ → List Bool → List ℕ → List ℕ
counts_grown rule waiting counts = cond (counts_losers rule) (tabulate 64 (grown_at waiting counts)) counts
