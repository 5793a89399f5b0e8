-- A listing tells the run of its trace's events: line by line the outcome, and so the winners in it are the grants. Assumes nothing.
use Prim.Native.Nat.{ℕ, zero, suc, ◌+◌, ◌*◌, ◌≤◌, ◌<◌}
use native.Mathlib.Nat.{zero-add, add-zero, add-suc, eq-or-lt_of_le, le_of_suc-le-suc}
use native.Mathlib.Numerals.{add-one}
use native.Mathlib.Omega.{arith}
use mathlib.Core.Bool.{Bool, true, false, cond, not, true≢false, and-false}
use mathlib.Core.List.{List, ◌++◌, append_assoc, append-nil}
use mathlib.Core.Logic.{◌⊎◌, inl, inr}
use mathlib.Core.Path.{◌≡◌, refl, sym, ap, ◌∙◌, subst}
use lib.ListN.{length, length-append, get_or-append}
use Rattle.arbiter.proofs.Runs.{after_more, after-append, grants_more}
use Rattle.arbiter.proofs.Tests.{and_left, and_right}
use Rattle.arbiter.proofs.Told.{small, winner_below}
use Rattle.arbiter.specs.Runs.{Event, outcome_of, next, after, grants}
use Rattle.arbiter.specs.Outcome.{Outcome}
use Rattle.state.specs.declared.RackState.{RackState}
use Rattle.cards.proofs.Below.{all_at, all_each}
use Rattle.cards.specs.Below.{all_below}
use Rattle.trace.proofs.Bytes.{line_is_event, line_fine, line_malformed, line_tells}
use Rattle.trace.proofs.Chunks.{byte_back}
use Rattle.trace.proofs.Laws.{text_length}
use Rattle.trace.specs.Bytes.{byte_at, two_at, event_at, is_line, event_on, events_in, letter_at, winner_at, Tells, winner_on, winners_in}
use Rattle.trace.specs.Line.{line_outcome, text_of, line_text}
use Rattle.trace.specs.Listing.{text_in, Listing, with_line, line_at, listing}

-- the events of some lines, and of some more
pub events_split : (trace : List ℕ) (from count : ℕ) → events_in trace 0 (from + count) ≡ events_in trace 0 from ++ events_in trace from count
unfolding events_in
events_split trace from zero = rw (add-zero from, append-nil)
events_split trace from (suc count) = rw (add-suc from count, events_split trace from count, zero-add, append_assoc)

pub events_more : (trace : List ℕ) (n : ℕ) → events_in trace 0 (suc n) ≡ events_in trace 0 n ++ event_on trace n
unfolding events_in
events_more trace n = rw zero-add

module _ (s : RackState) (trace : List ℕ) where
  -- the first n lines are well formed
  abbrev pub fine : ℕ → Bool
  fine n = all_below n (is_line trace)

  abbrev pub state_at : ℕ → RackState
  state_at n = after s (events_in trace 0 n)

  -- the state after some lines and then some more, and after one more
  pub state_on : (from count : ℕ) → after (state_at from) (events_in trace from count) ≡ state_at (from + count)
  state_on from count =
      sym (after-append s (events_in trace 0 from) (events_in trace from count)) ∙ ap (after s) (sym (events_split trace from count))

  pub state_more : (n : ℕ) → fine n ≡ true → is_line trace n ≡ true → state_at (suc n) ≡ next (state_at n) (event_at trace n)
  unfolding all_below
  state_more n ok good = rw (events_more trace n, ok, good, after_more)

  pub state_kept : (n : ℕ) → is_line trace n ≡ false → state_at (suc n) ≡ state_at n
  unfolding all_below
  state_kept n bad = rw (events_more trace n, bad, and-false (fine n), append-nil)

  abbrev made : ℕ → Listing
  made n = listing s trace n

  -- what the first n lines made
  pub record So (n : ℕ) (l : Listing) : Type 0 where
    pub ended : l.ended ≡ not (fine n)
    pub state : l.state ≡ state_at n
    pub size : length l.text ≡ 22 * l.lines
    pub count : fine n ≡ true → l.lines ≡ n
    pub events : events_in trace 0 l.lines ≡ events_in trace 0 n

  one_line : (n : ℕ) (l : Listing) → length l.text ≡ 22 * l.lines
      → length (with_line l (line_at l.state trace n)).text ≡ 22 * (with_line l (line_at l.state trace n)).lines
  unfolding line_at
  one_line n l e = rw (length-append, e, text_length trace n _ _ _ _ _ _) (omega arith)

  module _ (n : ℕ) (l : Listing) (h : So n l) where
    -- nothing after a malformed line
    so_ended : fine n ≡ false → So (suc n) l
    unfolding all_below
    so_ended bad = record {
      ended = rw bad (h.ended ∙ ap not bad);
      state = rw (events_more trace n, bad, append-nil) h.state;
      size = h.size;
      count = λ ok. absurd (true≢false (sym (and_left (fine n) (is_line trace n) ok) ∙ bad));
      events = rw (events_more trace n, bad, append-nil) h.events;
    }

    -- a line more
    so_line : (b : Bool) → is_line trace n ≡ b → fine n ≡ true → So (suc n) (with_line l (line_at l.state trace n))
    unfolding all_below line_at line_outcome
    so_line true good ok = record {
      ended = rw (ok, good) (line_fine trace n good);
      state = rw (state_more n ok good, line_is_event trace n good l.state, h.state);
      size = one_line n l h.size;
      count = λ _. omega (arith, h.count ok);
      events = rw (h.count ok, add-one);
    }
    so_line false bad ok = record {
      ended = rw (ok, bad, line_malformed trace n bad);
      state = rw (state_kept n bad, line_malformed trace n bad) h.state;
      size = one_line n l h.size;
      count = λ all. absurd (true≢false (sym (and_right (fine n) (is_line trace n) all) ∙ bad));
      events = rw (h.count ok, add-one);
    }

    so_more : So (suc n) (cond l.ended l (with_line l (line_at l.state trace n)))
    so_more = subst (λ (v : Bool). So (suc n) (cond v l (with_line l (line_at l.state trace n)))) (sym h.ended) (by_case (fine n) refl)
      where
        by_case : (b : Bool) → fine n ≡ b → So (suc n) (cond (not b) l (with_line l (line_at l.state trace n)))
        by_case true ok = so_line (is_line trace n) refl ok
        by_case false bad = so_ended bad

  pub so : (n : ℕ) → So n (made n)
  unfolding listing events_in after all_below
  so zero = record { ended = refl; state = refl; size = refl; count = λ _. refl; events = refl }
  so (suc n) = so_more n (made n) (so n)

  -- with a line more, as the lines before it are
  next_is : (n : ℕ) (b : Bool) → fine n ≡ b → made (suc n) ≡ cond b (with_line (made n) (line_at (made n).state trace n)) (made n)
  unfolding listing
  next_is n true ok = ap (λ (v : Bool). cond v (made n) (with_line (made n) (line_at (made n).state trace n))) ((so n).ended ∙ ap not ok)
  next_is n false bad = ap (λ (v : Bool). cond v (made n) (with_line (made n) (line_at (made n).state trace n))) ((so n).ended ∙ ap not bad)

  fewer : (n k : ℕ) → k ≤ n → fine n ≡ true → fine k ≡ true
  fewer n k le ok = all_each k (is_line trace) (λ a l. all_at n (is_line trace) ok a (omega arith))

  -- a line of the listing answers a line of the trace, and every line before it is well formed
  pub within : (n k : ℕ) → k < (made n).lines → (k < n) × (fine k ≡ true)
  unfolding listing
  within zero k l = absurd (omega arith)
  within (suc n) k l = by_case (fine n) refl (within n k)
    where
      by_case : (b : Bool) → fine n ≡ b → (k < (made n).lines → (k < n) × (fine k ≡ true)) → (k < suc n) × (fine k ≡ true)
      by_case true ok before =
          let last : k < (made n).lines + 1 = rw (next_is n true ok) at l in
          let le : k ≤ n = omega (arith, (so n).count ok) in
          (omega arith, fewer n k le ok)
      by_case false bad before = let known = before (rw (next_is n false bad) at l) in (omega (arith, known.0), known.1)

  abbrev line_of : ℕ → List ℕ
  line_of k = (line_at (made k).state trace k).text

  -- its bytes
  byte : (n k j : ℕ) → k < n → fine k ≡ true → j < 22 → byte_at (made n).text (22 * k + j) ≡ byte_at (line_of k) j
  byte zero k j l ok m = absurd (omega arith)
  byte (suc n) k j l ok m = by_case (fine n) refl (eq-or-lt_of_le (le_of_suc-le-suc l)) (λ less. byte n k j less ok m)
    where
      by_case : (b : Bool) → fine n ≡ b → (k ≡ n) ⊎ (k < n) → (k < n → byte_at (made n).text (22 * k + j) ≡ byte_at (line_of k) j)
          → byte_at (made (suc n)).text (22 * k + j) ≡ byte_at (line_of k) j
      by_case true on (inl e) before =
          rw (next_is n true on, e) (byte_back (made n).text (line_of n) (22 * n + j) j (omega (arith, (so n).size, (so n).count on)))
      by_case true on (inr less) before =
          rw (next_is n true on)
          (get_or-append (made n).text (line_of n) 0 (22 * k + j) (omega (arith, (so n).size, (so n).count on)) ∙ before less)
      by_case false bad (inl e) before = absurd (true≢false (sym (rw e at ok) ∙ bad))
      by_case false bad (inr less) before = rw (next_is n false bad) (before less)

  module _ (n k : ℕ) (l : k < n) (ok : fine k ≡ true) where
    two : (j : ℕ) → j + 1 < 22 → two_at (made n).text (22 * k + j) ≡ two_at (line_of k) j
    two j m =
        let next : 22 * k + j + 1 ≡ 22 * k + (j + 1) = omega arith in
        rw (next, byte n k j l ok (omega arith), byte n k (j + 1) l ok m)

    -- what a line tells by itself it tells in the listing
    carried : (e : Event) (o : Outcome) → Tells (line_of k) 0 e o → Tells (made n).text k e o
    carried e o t =
        let first : 22 * k ≡ 22 * k + 0 = omega arith in
        let rest : 22 * k + 11 + 2 ≡ 22 * k + 13 = omega arith in
        record {
          letter = rw (first, byte n k 0 l ok (omega arith)) t.letter;
          number = two 2 (omega arith) ∙ t.number;
          answer = two 5 (omega arith) ∙ t.answer;
          winner = two 8 (omega arith) ∙ t.winner;
          lines = rw (rest, two 11 (omega arith), two 13 (omega arith)) t.lines;
          stages = two 16 (omega arith) ∙ t.stages;
          matches = two 19 (omega arith) ∙ t.matches;
        }

    -- a well-formed line is told with its event's outcome, in the state that the events before it left
    pub line_told : is_line trace k ≡ true → Tells (made n).text k (event_at trace k) (outcome_of (state_at k) (event_at trace k))
    unfolding line_at
    line_told good =
        let e = event_at trace k in
        carried e (outcome_of (state_at k) e)
        (rw (line_is_event trace k good (made k).state, (so k).state)
        (line_tells trace k (outcome_of (state_at k) e) good (small (state_at k) e.letter e.number) (winner_below (state_at k) e.letter e.number)))

    -- a malformed line has dashes in the place of its event, and names no winner
    pub line_dashed : is_line trace k ≡ false → letter_at (made n).text k ≡ 45
    unfolding line_at line_text text_in text_of
    line_dashed bad = let first : 22 * k ≡ 22 * k + 0 = omega arith in rw (first, byte n k 0 l ok (omega arith), line_malformed trace k bad)

    pub line_none : is_line trace k ≡ false → winner_at (made n).text k ≡ 0
    unfolding line_at line_outcome text_in line_text text_of
    line_none bad = rw (two 8 (omega arith), line_malformed trace k bad)

  -- the winners in the listing are the grants of the run
  pub winners_are : (n from count : ℕ) → from + count ≤ (made n).lines
      → winners_in (made n).text from count ≡ grants (state_at from) (events_in trace from count)
  unfolding winners_in events_in grants all_below
  winners_are n from zero le = refl
  winners_are n from (suc count) le = by_case (is_line trace k) refl (winners_are n from count (omega arith))
    where
      k : ℕ
      k = from + count

      here : (k < n) × (fine k ≡ true)
      here = within n k (omega arith)

      by_case : (b : Bool) → is_line trace k ≡ b → winners_in (made n).text from count ≡ grants (state_at from) (events_in trace from count)
          → winners_in (made n).text from count ++ winner_on (made n).text k ≡ grants (state_at from) (events_in trace from count ++ event_on trace k)
      by_case true good before =
          rw (here.1, good, grants_more, state_on from count, before, (line_told n k here.0 here.1 good).winner)
      by_case false bad before =
          rw (here.1, bad, append-nil, before, line_none n k here.0 here.1 bad) (append-nil _)

  pub listing_winners : (n : ℕ) → winners_in (made n).text 0 (made n).lines ≡ grants s (events_in trace 0 n)
  unfolding events_in after
  listing_winners n = rw (winners_are n 0 (made n).lines (omega arith), (so n).events)
