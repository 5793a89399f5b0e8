-- Laws of the trace's definitions, which the proofs of its functions cite. Assumes nothing.
use Prim.Native.Nat.{ℕ, zero, suc, ◌+◌, ◌-◌, ◌*◌, ◌<◌}
use native.Mathlib.Nat.{add-zero, add-suc}
use native.Mathlib.Numerals.{add-one}
use native.Mathlib.Omega.{arith}
use mathlib.Core.Bool.{Bool, true, false}
use mathlib.Core.List.{List, ◌++◌, append_assoc}
use mathlib.Core.Path.{◌≡◌, refl, sym, ap, ◌∙◌}
use lib.ListN.{length, take, drop, length-append}
use borrow.Rule.Slice.PartMut.{put_mid}
use lib.Seq.{take_at, drop_at, drop-drop}
use Rattle.std.proofs.Common.{Some, None}
use Rattle.arbiter.proofs.Kept.{same_form}
use Rattle.arbiter.specs.Arbitrate.{event_of}
use Rattle.arbiter.specs.State.{well_formed}
use Rattle.state.specs.declared.RackState.{RackState}
use Rattle.trace.specs.Line.{Line, line_outcome, text_of, line_text}
use Rattle.trace.specs.Listing.{text_in, Listed, line_at, Listing, with_line, listing, ran_of}
use Rattle.trace.specs.declared.Event.TheVariants.{Request, Arbitrate, Release}

-- a line written after what stands at the front of the buffer
line_after : (head line buffer now : List ℕ) (start n : ℕ) → length head ≡ start → now ≡ head ++ drop start buffer
    → take start now ++ (line ++ drop (start + n) now) ≡ (head ++ line) ++ drop (start + n) buffer
line_after head line buffer now start n e whole =
    let front : take start now ≡ head = rw whole (take_at head (drop start buffer) start e) in
    let tail : drop start now ≡ drop start buffer = rw whole (drop_at head (drop start buffer) start e) in
    let rest : drop (start + n) now ≡ drop (start + n) buffer = sym (drop-drop n start now) ∙ ap (drop n) tail ∙ drop-drop n start buffer in
    rw (front, rest, append_assoc)

-- ---- one line

line_length : (a b c d : ℕ) (line : Line) (answer winner lines stages matches : ℕ) → length (line_text a b c d line answer winner lines stages matches) ≡ 22
unfolding line_text text_of
line_length a b c d (Some event) answer winner lines stages matches = refl
line_length a b c d None answer winner lines stages matches = refl

pub text_length : (trace : List ℕ) (n : ℕ) (line : Line) (answer winner lines stages matches : ℕ)
    → length (text_in trace n line answer winner lines stages matches) ≡ 22
unfolding text_in
text_length trace n = line_length _ _ _ _

-- a line leaves the state as well formed as it was
pub line_keeps : (s : RackState) (line : Line) → well_formed (line_outcome s line).state ≡ well_formed s
unfolding line_outcome event_of
line_keeps s (Some (Request a)) = same_form s 81 a
line_keeps s (Some Arbitrate) = same_form s 65 0
line_keeps s (Some (Release a)) = same_form s 82 a
line_keeps s None = refl

-- ---- the listing, line by line

pub listing_more : (s : RackState) (trace : List ℕ) (n : ℕ) → (listing s trace n).ended ≡ false
    → listing s trace (n + 1) ≡ with_line (listing s trace n) (line_at (listing s trace n).state trace n)
unfolding listing
listing_more s trace n h = rw (add-one n, h)

-- what a line that ended the listing left stays
pub ended_stays : (s : RackState) (trace : List ℕ) (n m : ℕ) → (listing s trace n).ended ≡ true → listing s trace (n + m) ≡ listing s trace n
unfolding listing
ended_stays s trace n zero h = rw add-zero
ended_stays s trace n (suc m) h = rw (add-suc, ended_stays s trace n m h, h)

pub ran_as : (l : Listing) (state : RackState) (read written : ℕ) (ended : Bool)
    → state ≡ l.state → read ≡ 5 * l.lines → written ≡ 22 * l.lines → ended ≡ l.ended
    → record { state = state; read = read; written = written; ended = ended } ≡ ran_of l
ran_as l state read written ended a b c d = rw (a, b, c, d)

-- what a loop over the lines keeps after n of them
pub record Going (s : RackState) (trace buffer : List ℕ) (n : ℕ) (state : RackState) (now : List ℕ) : Type 0 where
  pub at : state ≡ (listing s trace n).state
  pub running : (listing s trace n).ended ≡ false
  pub count : (listing s trace n).lines ≡ n
  pub size : length (listing s trace n).text ≡ 22 * n
  pub left : now ≡ (listing s trace n).text ++ drop (22 * n) buffer

pub going_none : (s : RackState) (trace buffer : List ℕ) → Going s trace buffer 0 s buffer
unfolding listing
going_none s trace buffer = record { at = refl; running = refl; count = refl; size = refl; left = refl }

-- a line's text in its place
abbrev pub Put : ℕ → List ℕ → List ℕ → List ℕ → Type 0
Put n text now last = last ≡ take (22 * n) now ++ (text ++ drop (22 * n + 22) now)

pub line_put : (n k : ℕ) (text bytes now : List ℕ) → k ≡ n → bytes ≡ text → Put n text now (put_mid (22 * k) (22 * k + 22 - 22 * k) now bytes)
line_put n k text bytes now same is =
    let size : 22 * n + 22 - 22 * n ≡ 22 = omega arith in
    rw (same, is, size) (ap (λ (rest : List ℕ). take (22 * n) now ++ (text ++ rest)) (drop-drop 22 (22 * n) now))

module _ (s : RackState) (trace buffer : List ℕ) (n : ℕ) (state : RackState) (now : List ℕ) (g : Going s trace buffer n state now)
    (line : Listed) (is : line ≡ line_at state trace n) (last : List ℕ) (put : Put n line.text now last) where
  same_line : line_at (listing s trace n).state trace n ≡ line
  same_line = rw (← g.at) (sym is)

  more : listing s trace (n + 1) ≡ with_line (listing s trace n) line
  more = rw (← same_line) (listing_more s trace n g.running)

  whole_line : length line.text ≡ 22
  unfolding line_at
  whole_line = rw is (text_length trace n _ _ _ _ _ _)

  written : last ≡ (listing s trace (n + 1)).text ++ drop (22 * n + 22) buffer
  written = rw more (put ∙ line_after (listing s trace n).text line.text buffer now (22 * n) 22 g.size g.left)

  pub going_more : line.ended ≡ false → Going s trace buffer (n + 1) line.state last
  going_more h =
      let twice : 22 * n + 22 ≡ 22 * (n + 1) = omega arith in
      record {
        at = rw more;
        running = rw more h;
        count = rw more (omega (arith, g.count));
        size = rw (more, length-append, g.size, whole_line) twice;
        left = rw (← twice) written;
      }

  pub ended_here : (whole : ℕ) → n < whole → line.ended ≡ true → (k : ℕ) → k ≡ n
      → (record { state = line.state; read = 5 * k + 5; written = 22 * k + 22; ended = true } ≡ ran_of (listing s trace whole))
      × (last ≡ (listing s trace whole).text ++ drop (22 * (listing s trace whole).lines) buffer)
  ended_here whole below h k same =
      let far : whole ≡ (n + 1) + (whole - (n + 1)) = omega arith in
      let end : (listing s trace (n + 1)).ended ≡ true = rw more h in
      let stays : listing s trace whole ≡ listing s trace (n + 1) = rw far (ended_stays s trace (n + 1) (whole - (n + 1)) end) in
      let count : (listing s trace (n + 1)).lines ≡ n + 1 = rw more (omega (arith, g.count)) in
      let twice : 22 * n + 22 ≡ 22 * (n + 1) = omega arith in
      rw stays (
        ran_as (listing s trace (n + 1)) line.state (5 * k + 5) (22 * k + 22) true (rw more) (rw count (omega arith)) (rw count (omega arith)) (sym end),
        rw (count, ← twice) written,
      )

pub all_gone : (s : RackState) (trace buffer : List ℕ) (n lines whole : ℕ) (state : RackState) (now : List ℕ) → n ≡ lines → lines ≡ whole
    → Going s trace buffer n state now
    → (record { state = state; read = 5 * lines; written = 22 * lines; ended = false } ≡ ran_of (listing s trace whole))
    × (now ≡ (listing s trace whole).text ++ drop (22 * (listing s trace whole).lines) buffer)
all_gone s trace buffer n lines whole state now past all g =
    let e : n ≡ whole = past ∙ all in
    let count : (listing s trace whole).lines ≡ whole = rw (← e) g.count in (
      ran_as (listing s trace whole) state (5 * lines) (22 * lines) false (rw (← e) g.at) (rw (count, all)) (rw (count, all)) (rw (← e) (sym g.running)),
      rw (count, ← e) g.left,
    )
