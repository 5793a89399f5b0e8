-- What the five rules make of a card, as documents 01 and 02 have them: the lines, the competing number, and who goes first. Assumes nothing.
use Rattle.std.specs.Prelude.{ℕ, zero, suc, ◌+◌, ◌*◌, ◌^◌, Bool, true, cond, not, ltb, leb, eqb}

-- One of five by the rule's number: 0 fixed, 1 round-robin, 2 arrival, 3 batch, 4 inhibit. The last is for any other number. No well-formed state
-- has one (`formed_rule` of arbiter/proofs/Formed), so no event of the documents comes to it: it only makes the definition total.
unfoldable pub by_rule : {A : Type 0} → ℕ → A → A → A → A → A → A → A
by_rule zero fixed robin arrival batch inhibit other = fixed
by_rule (suc zero) fixed robin arrival batch inhibit other = robin
by_rule (suc (suc zero)) fixed robin arrival batch inhibit other = arrival
by_rule (suc (suc (suc zero))) fixed robin arrival batch inhibit other = batch
by_rule (suc (suc (suc (suc zero)))) fixed robin arrival batch inhibit other = inhibit
by_rule (suc (suc (suc (suc (suc n))))) fixed robin arrival batch inhibit other = other

-- how many lines the rule has; 0 lines are refused by every settling
unfoldable pub lines_by : ℕ → ℕ → ℕ
lines_by k rule = by_rule rule k (k + 1) (k * 2) k k 0

-- as a settling is given them: none for a width that no table has
unfoldable pub lines_given : ℕ → ℕ → ℕ
lines_given k rule = cond (leb k 6) (lines_by k rule) 0

-- 2 ^ k; 1 for a width that no table has
unfoldable pub span_of : ℕ → ℕ
span_of k = cond (leb k 6) (2 ^ k) 1

-- the competing number of a card a with this waiting count: under rules 0, 3 and 4 a; under rule 1 a, plus 2 ^ k if a is less than the last
-- winner; under rule 2 a plus 2 ^ k times its count
unfoldable pub number_by : ℕ → ℕ → ℕ → ℕ → ℕ → ℕ
number_by k rule last count a =
    by_rule rule a
    (cond (ltb a last) (a + 2 ^ k) a)
    (a + 2 ^ k * count)
    a
    a
    0

-- Under rule 3 the cards of the batch go first, under rule 4 those that are not inhibited; under the others no card goes before another.
unfoldable pub goes_first : ℕ → Bool → Bool → Bool
goes_first rule batched inhibited = by_rule rule true true true batched (not inhibited) true

-- Rule 1 alone is round-robin, under rule 2 alone a loser's waiting count grows, under rule 3 alone there is a batch, and under rule 4 alone a card is
-- inhibited when it wins.
abbrev pub is_robin : ℕ → Bool
is_robin rule = eqb rule 1

abbrev pub counts_losers : ℕ → Bool
counts_losers rule = eqb rule 2

abbrev pub has_batch : ℕ → Bool
has_batch rule = eqb rule 3

abbrev pub inhibits : ℕ → Bool
inhibits rule = eqb rule 4
