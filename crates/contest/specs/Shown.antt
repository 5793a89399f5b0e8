-- Who competes, and what each card shows the lines, which the arbitration hands to the settling in place of the list of competing numbers. Assumes nothing.
use Rattle.std.specs.Prelude.{ℕ, Bool, cond, ◌&&◌, ◌||◌, List, get_or}
use Rattle.cards.specs.Below.{tabulate}
use Rattle.rules.specs.Marks.{is_in, Marks, marks}
use Rattle.state.specs.declared.RackState.{RackState}
use Rattle.rules.specs.Rules.{lines_given, number_by, goes_first}
use Rattle.lines.specs.Settle.{refusal, settled_or}
use Rattle.lines.specs.Settled.{Settled}

-- the marks of a state
abbrev pub marks_of : RackState → Marks
marks_of s = marks s.waiting s.counts s.batch s.inhibited

-- a waiting card that goes first, from the marks alone
abbrev pub first_at : ℕ → List Bool → List Bool → List Bool → ℕ → Bool
first_at rule waiting batch inhibited a = is_in waiting a && goes_first rule (is_in batch a) (is_in inhibited a)

-- what a card has to show if it waits: its number if it goes first, or if the sets are made anew for all that wait; and else 0, which no line tells
-- from silence
abbrev pub offered_at : ℕ → ℕ → ℕ → Bool → Marks → ℕ → ℕ
offered_at k rule last anew m a =
    cond (goes_first rule (is_in m.batch a) (is_in m.inhibited a) || anew) (number_by k rule last (get_or m.counts a 0) a) 0

-- what it shows: 0 as well if it does not wait
unfoldable pub shown_at : ℕ → ℕ → ℕ → Bool → Marks → ℕ → ℕ
shown_at k rule last anew m a = cond (is_in m.waiting a) (offered_at k rule last anew m a) 0

-- the settling of what all cards show, on lines that carry `start`; it is refused with 21 for a width that no table has
abbrev pub shown_settling : ℕ → ℕ → ℕ → ℕ → Bool → Marks → Settled
shown_settling k rule last start anew m =
    let shown = tabulate 64 (shown_at k rule last anew m) in
    settled_or (refusal (lines_given k rule) shown start 13) (lines_given k rule) shown start
