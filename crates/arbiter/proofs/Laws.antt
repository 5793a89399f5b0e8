-- Laws of the arbitration's definitions, which the proofs of its functions cite. Assumes nothing.
use Prim.Native.Nat.{ℕ, zero, suc, ◌+◌, ◌-◌, ◌^◌, ◌≤◌, ◌<◌}
use native.Mathlib.Omega.{arith}
use mathlib.Core.Bool.{Bool, true, false, cond, not, ◌&&◌, ◌||◌}
use mathlib.Core.List.{[], ◌∷◌}
use mathlib.Core.Logic.{◌⊎◌, inl, inr, ◌≢◌}
use mathlib.Core.Path.{◌≡◌, refl, sym, ◌∙◌}
use lib.Dec.{eqb}
use lib.ListN.{length, get_or, set, length-append, length-set}
use lib.Pow.{pow_mono}
use lib.Seq.{get_or-set_other}
use borrow.Author.Tests.{lt-ltb, leb-false, eqb-true, eq-eqb, ne_eqb}
use Rattle.arbiter.proofs.Tests.{set_default}
use Rattle.arbiter.specs.Arbitrate.{number_of, preferred, some_preferred, competes}
use Rattle.arbiter.specs.Arbitrate.{competing_below, settling_of, some_loser_full, one_more, losers_counted, winner_stopped, counts_after, granted}
use Rattle.arbiter.specs.State.{waits, count_of, lines_of}
use Rattle.state.specs.declared.RackState.{RackState}
use Rattle.cards.proofs.Below.{any_false, same_or_not, tabulate_alike, tabulate_at, tabulate-length}
use Rattle.cards.specs.Below.{any_below, tabulate}
use Rattle.rules.proofs.Laws.{lines_given_lem, span_of_lem}
use Rattle.rules.specs.Counts.{one_more_of, full_loser, grown_at, counts_grown}
use Rattle.rules.specs.Marks.{is_in}
use Rattle.rules.specs.Rules.{counts_losers, span_of}
use Rattle.contest.specs.Shown.{marks_of, shown_at, shown_settling}
use Rattle.lines.proofs.Silent.{Silent, none, kept, more, silent_append, Alike, result_silent}

at_most_one : (b : Bool) (x : ℕ) → length (cond b (x ∷ []) []) ≤ 1
at_most_one true x = omega arith
at_most_one false x = omega arith

pub competing_short : (s : RackState) (n : ℕ) → length (competing_below s n) ≤ n
unfolding competing_below
competing_short s zero = omega arith
competing_short s (suc n) = rw length-append (omega (arith, competing_short s n, at_most_one (competes s n) (number_of s n)))

-- what the cards below n show is their competing numbers with zeros put in
module _ (s : RackState) (anew : Bool) (is : anew ≡ not (some_preferred s)) where
  shown_silent : (n : ℕ) → Silent (competing_below s n) (tabulate n (shown_at s.table.k s.table.rule s.last anew (marks_of s)))
  unfolding competing_below tabulate shown_at competes number_of
  shown_silent zero = none
  shown_silent (suc n) = silent_append (shown_silent n) (rw is (one (waits s n) (preferred s n || not (some_preferred s))))
    where
      one : (b c : Bool) → Silent (cond (b && c) (number_of s n ∷ []) []) (cond b (cond c (number_of s n) 0) 0 ∷ [])
      one true true = kept none
      one true false = more none
      one false c = more none

  -- so that it settles as the competing numbers do
  pub shown_settles : s.table.k ≤ 6 → Alike (shown_settling s.table.k s.table.rule s.last s.value anew (marks_of s)) (settling_of s)
  shown_settles small =
      rw (lines_given_lem s.table.k s.table.rule small) (result_silent (lines_of s) s.value 13 (shown_silent 64) (rw tabulate-length (omega arith)))

-- ---- the counts after a grant to w

module _ (s : RackState) (w : ℕ) where
  pub winner_count : w < 64 → count_of (granted s w) w ≡ 0
  unfolding granted losers_counted
  winner_count below = go (eqb s.table.rule 2)
    where
      none : one_more (winner_stopped s w) (set s.counts w 0) w ≡ 0
      none = rw (set_default s.waiting w false, set_default s.counts w 0)

      go : (b : Bool) → get_or (cond b (tabulate 64 (one_more (winner_stopped s w) (set s.counts w 0))) (set s.counts w 0)) w 0 ≡ 0
      go true = tabulate_at 64 (one_more (winner_stopped s w) (set s.counts w 0)) w 0 below ∙ none
      go false = set_default s.counts w 0

  -- under rule 2 a loser's grows by 1
  pub loser_count : (n : ℕ) → n < 64 → n ≢ w → s.table.rule ≡ 2 → count_of (granted s w) n ≡ count_of s n + cond (waits s n) 1 0
  unfolding granted losers_counted
  loser_count n below other two =
      rw (eq-eqb s.table.rule 2 two)
      (tabulate_at 64 (one_more (winner_stopped s w) (set s.counts w 0)) n 0 below
      ∙ rw (get_or-set_other s.waiting w n false false other, get_or-set_other s.counts w n 0 0 other) (go (waits s n)))
    where
      go : (b : Bool) → cond b (count_of s n + 1) (count_of s n) ≡ count_of s n + cond b 1 0
      go true = refl
      go false = omega arith

  -- under the others it stays
  pub other_count : (n : ℕ) → n ≢ w → s.table.rule ≢ 2 → count_of (granted s w) n ≡ count_of s n
  unfolding granted losers_counted
  other_count n other not-two = rw (ne_eqb s.table.rule 2 not-two) (get_or-set_other s.counts w n 0 0 other)

  pub counts_length : length s.counts ≡ 64 → length (granted s w).counts ≡ 64
  unfolding granted losers_counted
  counts_length long = go (eqb s.table.rule 2)
    where
      go : (b : Bool) → length (cond b (tabulate 64 (one_more (winner_stopped s w) (set s.counts w 0))) (set s.counts w 0)) ≡ 64
      go true = tabulate-length 64 (one_more (winner_stopped s w) (set s.counts w 0))
      go false = length-set s.counts w 0 ∙ long

-- the span is 2 to the number width, so that the test of a full count is the definition's
pub full_lem : (s : RackState) (w : ℕ) → s.table.k ≤ 6
    → some_loser_full s w ≡ (counts_losers s.table.rule && any_below 64 (full_loser (span_of s.table.k - 1) s.waiting s.counts w))
unfolding some_loser_full
full_lem s w small = rw (span_of_lem s.table.k small)

-- where no loser's count is full, a loser's count under rule 2 is below 2 ^ k - 1
pub not_full : (s : RackState) (w a : ℕ) → some_loser_full s w ≡ false → a < 64 → a ≢ w → s.table.rule ≡ 2 → waits s a ≡ true
    → count_of s a < 2 ^ s.table.k - 1
unfolding some_loser_full
not_full s w a room below other two t =
    leb-false (2 ^ s.table.k - 1) (count_of s a)
    (rw (ne_eqb a w other, t) at (any_false 64 (full_loser (2 ^ s.table.k - 1) s.waiting s.counts w) (rw two at room) a below))

-- so that one more has room
pub loser_room : (s : RackState) (w : ℕ) → some_loser_full s w ≡ false → s.table.k ≤ 6 → s.table.rule ≡ 2
    → (a : ℕ) → a < 64 → is_in (winner_stopped s w) a ≡ true → get_or (set s.counts w 0) a 0 < 255
loser_room s w room small two a below t = go (same_or_not a w)
  where
    go : (a ≡ w) ⊎ (a ≢ w) → get_or (set s.counts w 0) a 0 < 255
    go (inl p) = rw (p, set_default s.counts w 0) (omega arith)
    go (inr d) =
        let span : 2 ^ s.table.k ≤ 2 ^ 6 = pow_mono small in
        let waiting : waits s a ≡ true = sym (get_or-set_other s.waiting w a false false d) ∙ t in
        rw (get_or-set_other s.counts w a 0 0 d) (omega (arith, not_full s w a room below d two waiting))

-- and the counts grow as document 01 says: none comes to the 255 at which one more would stop
pub counts_grown_lem : (s : RackState) (w : ℕ) → some_loser_full s w ≡ false → s.table.k ≤ 6
    → counts_grown s.table.rule (winner_stopped s w) (set s.counts w 0) ≡ counts_after s w
unfolding counts_grown losers_counted
counts_grown_lem s w room small = go (eqb s.table.rule 2) refl
  where
    one : s.table.rule ≡ 2 → (a : ℕ) → a < 64 → (b : Bool) → is_in (winner_stopped s w) a ≡ b
        → cond b (one_more_of 255 (get_or (set s.counts w 0) a 0)) (get_or (set s.counts w 0) a 0)
        ≡ cond b (get_or (set s.counts w 0) a 0 + 1) (get_or (set s.counts w 0) a 0)
    one two a below true t = rw (lt-ltb _ 255 (loser_room s w room small two a below t))
    one two a below false t = refl

    go : (b : Bool) → eqb s.table.rule 2 ≡ b
        → cond b (tabulate 64 (grown_at (winner_stopped s w) (set s.counts w 0))) (set s.counts w 0)
        ≡ cond b (tabulate 64 (one_more (winner_stopped s w) (set s.counts w 0))) (set s.counts w 0)
    go true e =
        tabulate_alike 64 (grown_at (winner_stopped s w) (set s.counts w 0)) (one_more (winner_stopped s w) (set s.counts w 0))
        (λ a below. one (eqb-true s.table.rule 2 e) a below (is_in (winner_stopped s w) a) refl)
    go false e = refl
