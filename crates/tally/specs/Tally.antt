-- What a counted event makes of the tally and of the square, and when they are refused, as request A4 of document 02 has it. Assumes nothing.
use Rattle.std.specs.Prelude.{ℕ, ◌+◌, ◌*◌, Bool, false, cond, not, ◌&&◌, ◌||◌, List, [], ltb, leb, eqb, get_or, set, replicate}
use Rattle.cards.specs.Below.{all_below, tabulate}
use Rattle.arbiter.specs.Arbitrate.{by_letter, event_of}
use Rattle.arbiter.specs.Events.{answered}
use Rattle.arbiter.specs.State.{waits}
use Rattle.arbiter.specs.Outcome.{Outcome}
use Rattle.state.specs.declared.RackState.{RackState}
use Rattle.tally.specs.Counted.{Counted}
use Rattle.tally.specs.declared.Figures.{Figures}
use Rattle.tally.specs.Tallied.{Tallied}
use Rattle.tally.specs.declared.Tally.{Tally}

abbrev pub no_figures : Figures
no_figures = record { grants = 0; sum = 0; squares = 0; running = 0 }

-- the figures of the card b
abbrev pub figures_of : Tally → ℕ → Figures
figures_of t b = get_or t.cards b no_figures

-- the square: the row is the waiter's, the column the granted card's
abbrev pub Square : Type 0
Square = List (List ℕ)

abbrev pub row_of : Square → ℕ → List ℕ
row_of q b = get_or q b []

abbrev pub entry_of : Square → ℕ → ℕ → ℕ
entry_of q b c = get_or (row_of q b) c 0

abbrev pub zero_tally : Tally
zero_tally = record { events = 0; cards = replicate 64 no_figures }

abbrev pub zero_square : Square
zero_square = replicate 64 (replicate 64 0)

-- Refusal 41 unless, where n events are counted: no count, sum, running wait or entry exceeds n, no sum of squares exceeds the square of n, and no
-- variance would be negative.

unfoldable pub figures_small : ℕ → Figures → Bool
figures_small n f = leb f.grants n && leb f.sum n && leb f.running n && leb f.squares (n * n)

-- the variance is grants times squares less sum squared, over grants squared
abbrev pub variance_good : Figures → Bool
variance_good f = leb (f.sum * f.sum) (f.grants * f.squares)

unfoldable pub figures_good : ℕ → Figures → Bool
figures_good n f = figures_small n f && variance_good f

abbrev pub card_good : Tally → ℕ → Bool
card_good t b = figures_good t.events (figures_of t b)

abbrev pub entry_good : ℕ → List ℕ → ℕ → Bool
entry_good n row c = leb (get_or row c 0) n

abbrev pub row_good : ℕ → Square → ℕ → Bool
row_good n q b = all_below 64 (entry_good n (row_of q b))

unfoldable pub tally_good : Tally → Square → Bool
tally_good t q = all_below 64 (card_good t) && all_below 64 (row_good t.events q)

-- The answer to an event that the rack answers with n. 31 and 41 come straight after 17; 18 is no event's.
unfoldable pub counted_answer : Tally → Square → ℕ → ℕ
counted_answer t q n = cond (eqb n 17 || eqb n 18) n (cond (leb 65535 t.events) 31 (cond (not (tally_good t q)) 41 n))

-- A done event, in the figures f of the card b.

abbrev pub with_running : Figures → ℕ → Figures
with_running f running = record { grants = f.grants; sum = f.sum; squares = f.squares; running = running }

-- a request by the card a sets its running wait to 0
unfoldable pub asked_figures : ℕ → ℕ → Figures → Figures
asked_figures a b f = cond (eqb b a) (with_running f 0) f

-- a grant ends the winner's wait, and its running wait is 0
abbrev pub won_figures : Figures → Figures
won_figures f = record { grants = f.grants + 1; sum = f.sum + f.running; squares = f.squares + f.running * f.running; running = 0 }

-- a grant to w, where the card b then waits or not: it is a grant to another for each card left waiting
unfoldable pub granted_figures : ℕ → Bool → ℕ → Figures → Figures
granted_figures w waits b f = cond (eqb b w) (won_figures f) (cond waits (with_running f (f.running + 1)) f)

unfoldable pub figures_after : ℕ → ℕ → ℕ → Bool → ℕ → Figures → Figures
figures_after letter a w waits b f = by_letter letter (asked_figures a b f) (granted_figures w waits b f) f f

abbrev pub card_after : List Figures → ℕ → ℕ → ℕ → List Bool → ℕ → Figures
card_after cards letter a w waiting b = figures_after letter a w (get_or waiting b false) b (get_or cards b no_figures)

abbrev pub tally_after : Tally → ℕ → ℕ → Outcome → Tally
tally_after t letter a o =
    record { events = t.events + 1; cards = tabulate 64 (card_after t.cards letter a o.winner o.state.waiting) }

-- A grant to w adds one in the square for each card left waiting.

unfoldable pub row_after : List ℕ → Bool → ℕ → List ℕ
row_after row waits w = cond waits (set row w (get_or row w 0 + 1)) row

abbrev pub rows_after : Square → List Bool → ℕ → ℕ → List ℕ
rows_after q waiting w b = row_after (row_of q b) (get_or waiting b false) w

abbrev pub is_grant : Outcome → Bool
is_grant o = eqb o.answer 0 && ltb 0 o.winner

unfoldable pub square_after : Square → Outcome → Square
square_after q o = cond (is_grant o) (tabulate 64 (rows_after q o.state.waiting o.winner)) q

-- A counted event: the outcome with the tally, and the square.

unfoldable pub counted_by : ℕ → Tally → RackState → ℕ → ℕ → Outcome → Counted
counted_by n t s letter a o =
    cond (eqb n 0) (record { tally = tally_after t letter a o; outcome = o }) (record { tally = t; outcome = answered s n })

unfoldable pub counted_of : Tally → Square → RackState → ℕ → ℕ → Counted
counted_of t q s letter a = counted_by (counted_answer t q (event_of s letter a).answer) t s letter a (event_of s letter a)

abbrev pub tallied_of : Tally → Square → RackState → ℕ → ℕ → Tallied
tallied_of t q s letter a =
    record { outcome = (counted_of t q s letter a).outcome; square = square_after q (counted_of t q s letter a).outcome }
