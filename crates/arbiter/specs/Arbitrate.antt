-- What an arbitration makes of a state, under the five rules, and an event by its letter, as documents 01 and 02 have it. Assumes nothing.
use Rattle.std.specs.Prelude.{ℕ, zero, suc, ◌+◌, ◌-◌, ◌^◌, ◌%◌, Bool, true, false, cond, not, ◌&&◌, ◌||◌, List, [], ◌∷◌, ◌++◌, leb, eqb, get_or, set}
use Rattle.arbiter.specs.Events.{answered, answered_by, request_of, release_of}
use Rattle.arbiter.specs.State.{waits, count_of, in_batch, is_inhibited, is_closed, lines_of, well_formed, with_marks, with_sets, with_bus, with_value}
use Rattle.state.specs.declared.Bus.{Bus}
use Rattle.state.specs.declared.Bus.TheVariants.{Free, Held, Elected}
use Rattle.arbiter.specs.Outcome.{Outcome}
use Rattle.state.specs.declared.RackState.{RackState}
use Rattle.cards.specs.Below.{any_below, tabulate}
use Rattle.rules.specs.Counts.{full_loser}
use Rattle.rules.specs.Marks.{is_in}
use Rattle.rules.specs.Rules.{number_by, goes_first, counts_losers, inhibits}
use Rattle.rules.specs.Sets.{batch_anew, inhibited_anew}
use Rattle.lines.specs.Settle.{refusal, settled_or}
use Rattle.lines.specs.Settled.{Settled}

-- the competing number of a waiting card a
unfoldable pub number_of : RackState → ℕ → ℕ
unfolding number_by
number_of s a = number_by s.table.k s.table.rule s.last (count_of s a) a

-- the card goes first
abbrev pub preferred : RackState → ℕ → Bool
preferred s a = goes_first s.table.rule (in_batch s a) (is_inhibited s a)

abbrev pub waits_preferred : RackState → ℕ → Bool
waits_preferred s a = waits s a && preferred s a

unfoldable pub some_preferred : RackState → Bool
some_preferred s = any_below 64 (waits_preferred s)

-- The waiting cards that go first compete. Where none of them waits, all waiting cards become the batch, or every inhibition is cleared: so all compete.
unfoldable pub competes : RackState → ℕ → Bool
competes s a = waits s a && (preferred s a || not (some_preferred s))

-- the batch and the inhibited cards at the arbitration, the winner still in the batch
unfoldable pub batch_now : RackState → List Bool
batch_now s = batch_anew s.table.rule (not (some_preferred s)) s.waiting s.batch

unfoldable pub inhibited_now : RackState → List Bool
inhibited_now s = inhibited_anew s.table.rule (not (some_preferred s)) s.inhibited

-- the competing numbers of the cards below n, by rising card
unfoldable pub competing_below : RackState → ℕ → List ℕ
competing_below s zero = []
competing_below s (suc n) = competing_below s n ++ cond (competes s n) (number_of s n ∷ []) []

abbrev pub competing : RackState → List ℕ
competing s = competing_below s 64

-- what their settling answers, on the rule's lines, which still carry the kept value, and with room for 13 stage entries. In a well-formed state it
-- is not refused (`settles`).
abbrev pub settling_of : RackState → Settled
settling_of s = settled_or (refusal (lines_of s) (competing s) s.value 13) (lines_of s) (competing s) s.value

-- the value that the lines settle to, and keep
unfoldable pub value_now : RackState → ℕ
value_now s = (settling_of s).lines

-- the winner is the settled value modulo 2 ^ k
abbrev pub winner_of : RackState → ℕ
winner_of s = (settling_of s).lines % 2 ^ s.table.k

-- refusal 16: under rule 2 a loser's count is already 2 ^ k - 1
unfoldable pub some_loser_full : RackState → ℕ → Bool
some_loser_full s w = counts_losers s.table.rule && any_below 64 (full_loser (2 ^ s.table.k - 1) s.waiting s.counts w)

-- The winner stops waiting, its count becomes 0, it leaves the batch and is the last winner. Under rule 2 every loser's count
-- grows by 1: losers are the cards that still wait. The lines keep their settled value, and one card less waits.
abbrev pub one_more : List Bool → List ℕ → ℕ → ℕ
one_more waiting counts a = cond (is_in waiting a) (get_or counts a 0 + 1) (get_or counts a 0)

unfoldable pub losers_counted : ℕ → List Bool → List ℕ → List ℕ
losers_counted rule waiting counts = cond (counts_losers rule) (tabulate 64 (one_more waiting counts)) counts

abbrev pub winner_stopped : RackState → ℕ → List Bool
winner_stopped s w = set s.waiting w false

abbrev pub counts_after : RackState → ℕ → List ℕ
counts_after s w = losers_counted s.table.rule (winner_stopped s w) (set s.counts w 0)

-- It holds a free bus, or is elected to follow the holder. No arbitration is done where a card is elected already.
abbrev pub won_bus : Bus → ℕ → Bus
won_bus Free w = Held w
won_bus (Held h) w = Elected h w
won_bus (Elected h e) w = Elected h e

-- under rule 4 it is inhibited
abbrev pub inhibited_by : ℕ → List Bool → ℕ → List Bool
inhibited_by rule inhibited a = cond (inhibits rule) (set inhibited a true) inhibited

unfoldable pub granted : RackState → ℕ → RackState
granted s w =
    with_value
    (with_sets (with_bus (with_marks s (winner_stopped s w) (counts_after s w) (s.waiters - 1)) w (won_bus s.bus w)) (set (batch_now s) w false)
    (inhibited_by s.table.rule (inhibited_now s) w))
    (value_now s)

-- the outcome of a grant to w with these settled lines
abbrev pub grant_to : RackState → ℕ → Settled → Outcome
grant_to s w t = record { state = granted s w; answer = 0; winner = w; lines = t.lines; stages = t.stages; matches = t.matches }

unfoldable pub won_by : RackState → ℕ → Settled → Outcome
won_by s w t = cond (some_loser_full s w) (answered s 16) (grant_to s w t)

-- a settling that is not refused and names a card: 0 is no card's number
abbrev pub has_winner : ℕ → Settled → Bool
has_winner w t = eqb t.answer 0 && not (eqb w 0)

-- the waiting cards settle; a state whose settling has no winner is not well formed
unfoldable pub arbitrated : RackState → Outcome
arbitrated s = cond (has_winner (winner_of s) (settling_of s)) (won_by s (winner_of s) (settling_of s)) (answered s 17)

-- an arbitration: 17, 13, 14 by the stored number of waiting cards, then 16 by the winner
unfoldable pub arbitrate_refusal : Bool → RackState → ℕ
arbitrate_refusal formed s = cond (not formed) 17 (cond (is_closed s.bus) 13 (cond (eqb s.waiters 0) 14 0))

-- As the event is told whether the state is well formed. It asks the width again, since a caller may tell it what is not so, and 2 ^ k is worked out
-- in 16 bits: a width over 6 is that of no well-formed state, so 17 is the answer there too.
abbrev pub arbitrate_by : Bool → RackState → Outcome
arbitrate_by formed s = answered_by (arbitrate_refusal (formed && leb s.table.k 6) s) s (arbitrated s)

-- The event of document 01. A well-formed state has a width of at most 6, so this is `arbitrate_by` told the truth: law `told_truth` of the proofs.
abbrev pub arbitrate_of : RackState → Outcome
arbitrate_of s = answered_by (arbitrate_refusal (well_formed s) s) s (arbitrated s)

-- one of three by the event's letter: Q, A or R; the last for any other letter
abbrev pub by_letter : {A : Type 0} → ℕ → A → A → A → A → A
by_letter letter request arbitrate release other =
    cond (eqb letter 81) request (cond (eqb letter 65) arbitrate (cond (eqb letter 82) release other))

unfoldable pub event_of : RackState → ℕ → ℕ → Outcome
event_of s letter a = by_letter letter (request_of s a) (arbitrate_of s) (release_of s a) (answered s 18)
