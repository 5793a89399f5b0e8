-- What `racktrace` prints is the run that the promises speak of, and so demand 3 and what stands in its place hold of a listing's text. Assumes nothing.
use Prim.Native.Nat.{ℕ, zero, suc, ◌+◌, ◌-◌, ◌≤◌, ◌<◌}
use native.Mathlib.Nat.{add-zero, add-suc}
use native.Mathlib.Numerals.{add-one}
use native.Mathlib.Omega.{arith}
use mathlib.Core.Bool.{Bool, true, false}
use mathlib.Core.List.{List, [], ◌∷◌, ◌++◌, append-nil}
use mathlib.Core.Logic.{◌⊎◌, inl, inr, ◌≢◌}
use mathlib.Core.Path.{◌≡◌, refl, sym, ◌∙◌}
use borrow.Author.Tests.{eq-eqb}
use Rattle.arbiter.proofs.Seen.{Seen, quiet, grant}
use Rattle.arbiter.proofs.Steps.{no_grant_quiet, loser_waits}
use Rattle.arbiter.proofs.Tests.{and_left, and_right}
use Rattle.arbiter.specs.Arbitrate.{event_of}
use Rattle.arbiter.specs.State.{waits, fresh_of}
use Rattle.state.specs.declared.RackState.{RackState}
use Rattle.cards.proofs.Below.{le_or_lt}
use Rattle.cards.specs.Below.{all_below}
use Rattle.cards.specs.declared.Table.{Table}
use Rattle.promises.proofs.Fairness.{fair_rules, batch_rules}
use Rattle.promises.proofs.Turns.{seen_event}
use Rattle.promises.specs.Fairness.{AtMost, AtMostOthers}
use Rattle.promises.specs.Listing.{trace_lines, listing_lines, listing_of, RunWritesListing, EachLineTells, WinnersAreGrants}
use Rattle.promises.specs.Listing.{WaitsInLines, winners_between, ListedAtMost, ListedAtMostOthers, ListedOnce, ListedTwice}
use Rattle.promises.specs.Runs.{Event, outcome_of, next, winner, after, grants, WaitsThrough}
use Rattle.tally.proofs.Effects.{asked_effect, flag_after}
use Rattle.trace.proofs.Chunks.{by_contract}
use Rattle.trace.proofs.Winners.{state_at, state_on, state_more, state_kept, so, within, line_told, line_dashed, winners_are, listing_winners}
use Rattle.trace.specs.Bytes.{event_at, is_line, events_in, letter_at, number_at, answer_at, winner_at, winners_in}
use Rattle.trace.specs.Listing.{listing}

pub run_writes_listing : RunWritesListing
run_writes_listing s trace buffer r last room lists =
    let n = trace_lines trace in
    let known = by_contract s trace buffer r last n refl room lists in
    (known.1, rw known.0 (so s trace n).state)

pub each_line_tells : EachLineTells
unfolding all_below
each_line_tells s trace n l ok =
    line_told s trace (trace_lines trace) n l (and_left (all_below n (is_line trace)) (is_line trace n) ok) (and_right (all_below n (is_line trace)) (is_line trace n) ok)

module _ (s : RackState) (trace : List ℕ) where
  abbrev n : ℕ
  n = trace_lines trace

  abbrev text : List ℕ
  text = listing_of s trace

  lines_are : listing_lines text ≡ (listing s trace n).lines
  lines_are = rw (so s trace n).size (omega arith)

pub winners_are_grants : WinnersAreGrants
winners_are_grants s trace = rw (lines_are s trace) (listing_winners s trace (trace_lines trace))

-- ---- a card that waits

-- a card that waits and is not granted goes on waiting
waits_on : (s : RackState) (e : Event) (a : ℕ) → waits s a ≡ true → winner s e ≢ a → waits (next s e) a ≡ true
waits_on s e a w other = go (seen_event s e)
  where
    go : Seen s (outcome_of s e) → waits (next s e) a ≡ true
    go (quiet z g) = (no_grant_quiet g).still_waits a w
    go (grant z free room st won) = rw st (loser_waits s (winner s e) a other w)

waits_more : (a : ℕ) (s : RackState) (es : List Event) (e : Event) → WaitsThrough a s es → waits (after s es) a ≡ true → WaitsThrough a s (es ++ (e ∷ []))
unfolding WaitsThrough after
waits_more a s [] e h w = (w, tt)
waits_more a s (x ∷ es) e h w = (h.0, waits_more a (next s x) es e h.1 w)

module _ (s : RackState) (trace : List ℕ) (a : ℕ) where
  abbrev lines : ℕ
  lines = (listing s trace (n s trace)).lines

  abbrev at : ℕ → RackState
  at = state_at s trace

  -- the card waits at each event of so many lines from line `from` on, and after them
  record On (from count : ℕ) : Type 0 where
    through : WaitsThrough a (at from) (events_in trace from count)
    still : waits (at (from + count)) a ≡ true

  on_more : (from count : ℕ) → from + count < lines → winner_at (text s trace) (from + count) ≢ a → On from count → On from (suc count)
  unfolding events_in all_below
  on_more from count l other on = by_case (is_line trace k) refl
    where
      k : ℕ
      k = from + count

      here : (k < n s trace) × (all_below k (is_line trace) ≡ true)
      here = within s trace (n s trace) k l

      by_case : (b : Bool) → is_line trace k ≡ b → On from (suc count)
      by_case true good =
          let e = event_at trace k in
          let told = line_told s trace (n s trace) k here.0 here.1 good in
          record {
            through = rw (here.1, good) (waits_more a (at from) (events_in trace from count) e on.through (rw (state_on s trace from count) on.still));
            still = rw (add-suc from count, state_more s trace k here.1 good) (waits_on (at k) e a on.still (λ same. other (told.winner ∙ same)));
          }
      by_case false bad = record {
        through = rw (here.1, bad, append-nil) on.through;
        still = rw (add-suc from count, state_kept s trace k bad) on.still;
      }

  on : (from count : ℕ) → from + count ≤ lines → waits (at from) a ≡ true
      → ((k : ℕ) → from ≤ k → k < from + count → winner_at (text s trace) k ≢ a) → On from count
  unfolding events_in WaitsThrough
  on from zero le w other = record { through = tt; still = rw (add-zero from) w }
  on from (suc count) le w other =
      on_more from count (omega arith) (other (from + count) (omega arith) (omega arith))
      (on from count (omega arith) w (λ k l m. other k l (omega arith)))

  -- after its request it waits
  request_waits : (t : RackState) → (event_of t 81 a).answer ≡ 0 → waits (event_of t 81 a).state a ≡ true
  unfolding event_of flag_after
  request_waits t done = (asked_effect t a done).flags a ∙ rw (eq-eqb a a refl)

  asked_waits : (from : ℕ) → from < lines → letter_at (text s trace) from ≡ 81 → number_at (text s trace) from ≡ a → answer_at (text s trace) from ≡ 0
      → waits (at (suc from)) a ≡ true
  asked_waits from l asks number done = by_case (is_line trace from) refl
    where
      here : (from < n s trace) × (all_below from (is_line trace) ≡ true)
      here = within s trace (n s trace) from l

      by_case : (b : Bool) → is_line trace from ≡ b → waits (at (suc from)) a ≡ true
      by_case true good =
          let told = line_told s trace (n s trace) from here.0 here.1 good in
          let q : (event_at trace from).letter ≡ 81 = sym told.letter ∙ asks in
          let by : (event_at trace from).number ≡ a = sym told.number ∙ number in
          let accepted : (outcome_of (at from) (event_at trace from)).answer ≡ 0 = sym told.answer ∙ done in
          rw (state_more s trace from here.1 good, q, by) (request_waits (at from) (rw (q, by) at accepted))
      by_case false bad = absurd (omega (arith, asks, line_dashed s trace (n s trace) from here.0 here.1 bad))

-- ---- what is promised of a run in which a card waits, of its lines

-- the lines are events that the card waits through, and the winners in them the grants
record Stretch (t : Table) (trace : List ℕ) (waiter from to : ℕ) : Type 0 where
  before : List Event
  during : List Event
  winners : winners_between (listing_of (fresh_of t) trace) from to ≡ grants (after (fresh_of t) before) during
  through : WaitsThrough waiter (after (fresh_of t) before) during

stretch : (t : Table) (trace : List ℕ) (waiter from to : ℕ) → WaitsInLines (listing_of (fresh_of t) trace) waiter from to → Stretch t trace waiter from to
unfolding winners_in grants WaitsThrough
stretch t trace waiter from to w = go (le_or_lt to (from + 1))
  where
    count : ℕ
    count = to - (from + 1)

    go : (to ≤ from + 1) ⊎ (from + 1 < to) → Stretch t trace waiter from to
    go (inl none) =
        let no_lines : to - (from + 1) ≡ 0 = omega arith in
        record { before = []; during = []; winners = rw no_lines; through = tt }
    go (inr some) =
        let all : from + 1 + count ≤ (listing (fresh_of t) trace (trace_lines trace)).lines = omega (arith, lines_are (fresh_of t) trace, w.listed) in
        let begun : waits (state_at (fresh_of t) trace (from + 1)) waiter ≡ true =
        rw add-one (asked_waits (fresh_of t) trace waiter from (omega arith) w.asks w.number w.done)
        in
        record {
          before = events_in trace 0 (from + 1);
          during = events_in trace (from + 1) count;
          winners = winners_are (fresh_of t) trace (trace_lines trace) (from + 1) count all;
          through = (on (fresh_of t) trace waiter (from + 1) count all begun (λ k l m. w.not_yet k (omega arith) (omega arith))).through;
        }

listed_at_most : (n rule : ℕ) → AtMost n rule → ListedAtMost n rule
listed_at_most n rule promise t is trace waiter other from to differ w =
    let st = stretch t trace waiter from to w in
    rw st.winners (promise t is st.before st.during waiter other differ st.through)

listed_others : (n rule : ℕ) → AtMostOthers n rule → ListedAtMostOthers n rule
listed_others n rule promise t is trace waiter from to w =
    let st = stretch t trace waiter from to w in
    rw st.winners (promise t is st.before st.during waiter st.through)

-- each part from what its law says, by arithmetic
pub listed_once : ListedOnce
listed_once rule low high =
    let fair = fair_rules rule low high in (
      λ t is trace waiter other from to d w. omega (arith, listed_at_most 1 rule fair.at_most_once t is trace waiter other from to d w),
      λ t is trace waiter from to w. omega (arith, listed_others 1 rule fair.at_most_others t is trace waiter from to w),
    )

pub listed_twice : ListedTwice
listed_twice rule low high t is trace waiter other from to d w =
    omega (arith, listed_at_most 2 rule (batch_rules rule low high).at_most_twice t is trace waiter other from to d w)
