-- A line is what its bytes say: a line of a trace is its event, and a line of a listing tells an outcome. Assumes nothing.
use Prim.Native.Nat.{ℕ, ◌+◌, ◌-◌, ◌*◌, ◌/◌, ◌%◌, ◌<◌}
use native.Mathlib.Omega.{arith}
use mathlib.Core.Bool.{Bool, true, false, cond, ◌&&◌, ◌||◌, true≢false}
use mathlib.Core.List.{List}
use mathlib.Core.Path.{◌≡◌, refl, sym, ◌∙◌}
use lib.Dec.{eqb}
use Rattle.std.proofs.Common.{Some, None}
use borrow.Author.Tests.{eqb-true}
use Rattle.arbiter.proofs.Tests.{and_left, and_right}
use Rattle.arbiter.proofs.Told.{Small}
use Rattle.arbiter.specs.Arbitrate.{arbitrate_of, event_of}
use Rattle.arbiter.specs.Events.{answered, request_of, release_of}
use Rattle.arbiter.specs.Runs.{Event, outcome_of}
use Rattle.arbiter.specs.Outcome.{Outcome}
use Rattle.state.specs.declared.RackState.{RackState}
use Rattle.trace.specs.Bytes.{byte_at, event_at, is_asked, is_shaped, is_line, Tells}
use Rattle.trace.specs.Line.{Line, shaped, line_of, is_malformed, line_outcome, last_digit, text_of, line_text}
use Rattle.trace.specs.Listing.{line_in, text_in}
use Rattle.trace.specs.declared.Event.TheVariants.{Request, Arbitrate, Release}

-- ---- a line of a trace

-- no letter is both A and R
one_letter : (letter : ℕ) → eqb letter 65 ≡ true → eqb letter 82 ≡ false
one_letter letter a = rw (eqb-true letter 65 a)

-- what a line with this number is, by which letter it has and by whether the number is 00
unfoldable line_by : ℕ → Bool → Bool → Bool → Bool → Line
line_by number q a r none = cond q (Some (Request number)) (cond a (cond none (Some Arbitrate) None) (cond r (Some (Release number)) None))

by_letter_lem : (s : RackState) (number : ℕ) (q a r none : Bool) → (a ≡ true → r ≡ false) → (q || (a && none) || r) ≡ true
    → line_outcome s (line_by number q a r none)
    ≡ cond q (request_of s number) (cond a (arbitrate_of s) (cond r (release_of s number) (answered s 18)))
unfolding line_outcome line_by
by_letter_lem s number true a r none one ok = refl
by_letter_lem s number false true r true one ok = refl
by_letter_lem s number false true r false one ok = absurd (true≢false (sym ok ∙ one refl))
by_letter_lem s number false false true none one ok = refl
by_letter_lem s number false false false none one ok = absurd (true≢false (sym ok))

asked_fine : (number : ℕ) (q a r none : Bool) → (a ≡ true → r ≡ false) → (q || (a && none) || r) ≡ true → is_malformed (line_by number q a r none) ≡ false
unfolding line_by
asked_fine number true a r none one ok = refl
asked_fine number false true r true one ok = refl
asked_fine number false true r false one ok = absurd (true≢false (sym ok ∙ one refl))
asked_fine number false false true none one ok = refl
asked_fine number false false false none one ok = absurd (true≢false (sym ok))

not_asked : (number : ℕ) (q a r none : Bool) → (q || (a && none) || r) ≡ false → line_by number q a r none ≡ None
unfolding line_by
not_asked number true a r none bad = absurd (true≢false bad)
not_asked number false true r true bad = absurd (true≢false bad)
not_asked number false true r false bad = refl
not_asked number false false true none bad = absurd (true≢false bad)
not_asked number false false false none bad = refl

module _ (trace : List ℕ) (n : ℕ) where
  abbrev letter : ℕ
  letter = byte_at trace (5 * n)

  abbrev event : Event
  event = event_at trace n

  same_place : 5 * n + 2 + 1 ≡ 5 * n + 3
  same_place = omega arith

  abbrev asked : Line
  asked = line_by event.number (eqb letter 81) (eqb letter 65) (eqb letter 82) (eqb event.number 0)

  -- the line, where it has the shape of one
  as_shaped : line_in trace n ≡ cond (is_shaped trace n) asked None
  unfolding is_shaped line_in line_of shaped line_by
  as_shaped = rw same_place

  module _ (ok : is_line trace n ≡ true) where
    as_asked : line_in trace n ≡ asked
    unfolding is_line
    as_asked = rw (as_shaped, and_left (is_shaped trace n) (is_asked event) ok)

    of_three : (eqb letter 81 || (eqb letter 65 && eqb event.number 0) || eqb letter 82) ≡ true
    unfolding is_line is_asked
    of_three = and_right (is_shaped trace n) (is_asked event) ok

    -- a well-formed line is its event
    pub line_is_event : (s : RackState) → line_outcome s (line_in trace n) ≡ outcome_of s event
    unfolding event_of
    line_is_event s = rw as_asked (by_letter_lem s event.number _ _ _ _ (one_letter letter) of_three)

    pub line_fine : is_malformed (line_in trace n) ≡ false
    line_fine = rw as_asked (asked_fine event.number _ _ _ _ (one_letter letter) of_three)

  -- any other line is malformed
  pub line_malformed : is_line trace n ≡ false → line_in trace n ≡ None
  unfolding is_line is_asked
  line_malformed bad = as_shaped ∙ by_shape (is_shaped trace n) bad
    where
      by_shape : (v : Bool) → (v && is_asked event) ≡ false → cond v asked None ≡ None
      by_shape true h = not_asked event.number _ _ _ _ h
      by_shape false h = refl

-- ---- a line of a listing

-- digits that were written are read as the number
digit : (x : ℕ) → last_digit x - 48 ≡ x % 10
digit x = omega arith

two_digits_lem : (x : ℕ) → x < 100 → (last_digit (x / 10) - 48) * 10 + (last_digit x - 48) ≡ x
two_digits_lem x small = rw (digit (x / 10), digit x) (omega arith)

four_digits : (x : ℕ) → x < 10000
    → ((last_digit (x / 1000) - 48) * 10 + (last_digit (x / 100) - 48)) * 100 + ((last_digit (x / 10) - 48) * 10 + (last_digit x - 48)) ≡ x
four_digits x small =
    let high : x / 1000 ≡ x / 100 / 10 = omega arith in
    let low : x / 10 % 10 * 10 + x % 10 ≡ x % 100 = omega arith in
    let top : x / 100 / 10 % 10 * 10 + x / 100 % 10 ≡ x / 100 = omega arith in
    rw (digit (x / 1000), digit (x / 100), digit (x / 10), digit x, high, low, top) (omega arith)

-- the line that answers a well-formed line tells its event and its outcome
pub line_tells : (trace : List ℕ) (n : ℕ) (o : Outcome) → is_line trace n ≡ true → Small o → o.winner < 64
    → Tells (text_in trace n (line_in trace n) o.answer o.winner o.lines o.stages o.matches) 0 (event_at trace n) o
unfolding text_in line_text text_of
line_tells trace n o ok small below =
    rw (line_fine trace n ok)
    (record {
      letter = refl;
      number = rw (same_place trace n);
      answer = two_digits_lem o.answer (omega (arith, small.answer));
      winner = two_digits_lem o.winner (omega arith);
      lines = four_digits o.lines (omega (arith, small.lines));
      stages = two_digits_lem o.stages (omega (arith, small.stages));
      matches = two_digits_lem o.matches (omega (arith, small.matches));
    })
