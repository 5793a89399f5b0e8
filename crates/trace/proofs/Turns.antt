-- The turns of the loop over a trace's lines. Assumes nothing.
use Prim.Native.Nat.{ℕ, ◌+◌, ◌-◌, ◌*◌, ◌≤◌, ◌<◌}
use native.Mathlib.Nat.{add-zero}
use native.Mathlib.Omega.{arith}
use mathlib.Core.Bool.{Bool, true, false, not}
use mathlib.Core.List.{List, ◌++◌}
use mathlib.Core.Path.{◌≡◌, refl, sym, ap, ◌∙◌}
use lib.ListN.{length, get_or, drop, length-drop, get_or-append}
use lib.Seq.{drop_at, drop-drop}
use denote.Ref.{Bor}
use Rattle.std.proofs.Common.{Option, Some, None, Result, Ok, Err, inl, inr}
use Rattle.std.proofs.lemmas.List.{get_or-drop}
use Rattle.std.specs.Iterator.Adapters.{zip_first, zip_second, zip_steps}
use Rattle.std.specs.Option.{is_some}
use Rattle.std.specs.Range.{range_steps}
use Rattle.std.specs.Slice.Iter.{chunks_exact_rest, chunks_exact_size, chunks_exact_steps}
use Rattle.std.specs.declared.iter.Zip.{Zip}
use Rattle.std.specs.declared.ops.Range.{Range}
use Rattle.std.specs.declared.slice.ChunksExact.{ChunksExact}
use Rattle.arbiter.specs.Outcome.{Outcome, as_outcome}
use Rattle.arbiter.specs.State.{well_formed}
use Rattle.arbiter.specs.declared.Reported.{Reported}
use Rattle.refusals.specs.declared.Refusal.{Refusal}
use Rattle.state.specs.declared.RackState.{RackState}
use Rattle.trace.proofs.Laws.{line_keeps}
use Rattle.trace.specs.Line.{Line, parse_of, is_malformed, line_outcome, line_text}
use Rattle.trace.specs.Listing.{line_in, text_in, line_at}

-- ---- the iterator: the numbers of a trace's first lines beside the lines

abbrev pub Lines : Type 0
Lines = Zip (Range ℕ) (ChunksExact ℕ)

-- n of them are passed
pub record Ahead (coming : Lines) (trace : List ℕ) (lines n : ℕ) : Type 0 where
  pub from : (zip_first coming).start ≡ n
  pub to : (zip_first coming).end ≡ lines
  pub within : n ≤ lines
  pub rest : chunks_exact_rest (zip_second coming) ≡ drop (5 * n) trace
  pub size : chunks_exact_size (zip_second coming) ≡ 5

pub none_taken : (coming : Lines) (trace : List ℕ) (lines : ℕ) (chunks : ChunksExact ℕ) → zip_first coming ≡ record { start = 0; end = lines }
    → zip_second coming ≡ chunks → chunks_exact_rest chunks ≡ trace → chunks_exact_size chunks ≡ 5 → Ahead coming trace lines 0
none_taken coming trace lines chunks numbers pieces rest size =
    record { from = rw numbers; to = rw numbers; within = omega arith; rest = rw pieces rest; size = rw pieces size }

abbrev pub Step : Lines → Option (ℕ × Bor (List ℕ)) → Lines → Type 0
Step = zip_steps (range_steps (λ (a b : ℕ). b - a) (λ (a b : ℕ). b ≡ a + 1)) (chunks_exact_steps {A = ℕ})

module _ (coming : Lines) (trace : List ℕ) (lines n : ℕ) (a : Ahead coming trace lines n) where
  -- what comes is line n with its number
  pub record Taken (k : ℕ) (line : List ℕ) (next : Lines) : Type 0 where
    pub number : k ≡ n
    pub below : n < lines
    pub size : length line ≡ 5
    pub bytes : (i : ℕ) → i < 5 → get_or line i 0 ≡ get_or trace (5 * n + i) 0
    pub ahead : Ahead next trace lines (n + 1)

  pub taken : (k : ℕ) (line : Bor (List ℕ)) (next : Lines) → Step coming (Some (k, line)) next → Taken k line.now next
  taken k line next (number, chunk) =
      let five : length line.now ≡ 5 = chunk.1.1 ∙ a.size in
      let whole : drop (5 * n) trace ≡ line.now ++ chunks_exact_rest (zip_second next) = sym a.rest ∙ chunk.1.0 in
      let after : drop 5 (drop (5 * n) trace) ≡ chunks_exact_rest (zip_second next) = rw whole (drop_at line.now _ 5 five) in
      record {
        number = number.1.1 ∙ a.from;
        below = omega (arith, number.1.0, a.from, a.to);
        size = five;
        bytes = λ i l. sym (get_or-append line.now (chunks_exact_rest (zip_second next)) 0 i (omega arith)) ∙ ap (λ (xs : List ℕ). get_or xs i 0) (sym whole) ∙ get_or-drop (5 * n) trace i 0;
        ahead = record {
          from = number.1.2 ∙ ap (λ (m : ℕ). m + 1) a.from;
          to = number.0 ∙ a.to;
          within = omega (arith, number.1.0, a.from, a.to);
          rest = sym after ∙ drop-drop 5 (5 * n) trace ∙ ap (λ (m : ℕ). drop m trace) (omega arith);
          size = chunk.0 ∙ a.size;
        };
      }

  -- the loop ends where no line is left
  pub all_taken : (next : Lines) → 5 * lines ≤ length trace → Step coming None next → n ≡ lines
  all_taken next room (inl (u, h)) = omega (arith, h.1.0, a.from, a.to, a.within)
  all_taken next room (inr (u, h)) =
      let short : length (drop (5 * n) trace) < 5 = rw (← a.rest, ← a.size) h.1.0 in
      omega (arith, a.within, length-drop (5 * n) trace)

-- ---- a line, by its bytes

module _ (trace line : List ℕ) (n : ℕ) (five : length line ≡ 5) (bytes : (i : ℕ) → i < 5 → get_or line i 0 ≡ get_or trace (5 * n + i) 0) where
  first : get_or line 0 0 ≡ get_or trace (5 * n) 0
  first = bytes 0 (omega arith) ∙ rw add-zero

  line_parsed : parse_of line ≡ line_in trace n
  unfolding line_in
  line_parsed = rw (five, first, bytes 1 (omega arith), bytes 2 (omega arith), bytes 3 (omega arith), bytes 4 (omega arith))

  -- what is made of it is what the listing has at its place
  line_listed : (state : RackState) (event : Line) (o : Outcome) (text : List ℕ) → event ≡ parse_of line → o ≡ line_outcome state event
      → text ≡ line_text (get_or line 0 0) (get_or line 1 0) (get_or line 2 0) (get_or line 3 0) event o.answer o.winner o.lines o.stages o.matches
      → record { state = o.state; text = text; ended = is_malformed event } ≡ line_at state trace n
  unfolding line_at text_in
  line_listed state event o text e told t =
      rw (t, told, e, line_parsed, first, bytes 1 (omega arith), bytes 2 (omega arith), bytes 3 (omega arith))

-- ---- one turn

state_left : (next : RackState) (r : Result Reported Refusal) → (as_outcome next r).state ≡ next
state_left next (Ok reported) = refl
state_left next (Err refusal) = refl

module _ (coming : Lines) (trace : List ℕ) (lines n : ℕ) (state : RackState) (k : ℕ) (line : Bor (List ℕ)) (coming' : Lines) (event : Line)
    (next : RackState) (r : Result Reported Refusal) (text : List ℕ) where
  abbrev told : Outcome
  told = as_outcome next r

  -- what a turn has done with line n
  pub record Turned : Type 0 where
    pub number : k ≡ n
    pub below : n < lines
    pub ahead : Ahead coming' trace lines (n + 1)
    pub listed : record { state = next; text = text; ended = is_malformed event } ≡ line_at state trace n
    pub formed : well_formed next ≡ well_formed state

  pub turned : Ahead coming trace lines n → Step coming (Some (k, line)) coming' → event ≡ parse_of line.now → told ≡ line_outcome state event
      → text ≡ line_text (get_or line.now 0 0) (get_or line.now 1 0) (get_or line.now 2 0) (get_or line.now 3 0) event told.answer told.winner told.lines told.stages told.matches
      → Turned
  turned a step e outcome t =
      let got = taken coming trace lines n a k line coming' step in
      record {
        number = got.number;
        below = got.below;
        ahead = got.ahead;
        listed = rw (state_left next r) at (line_listed trace line.now n got.size got.bytes state event told text e outcome t);
        formed = rw (← outcome, state_left next r) at (line_keeps state event);
      }

pub malformed_is_none : (event : Line) (none : Bool) → is_some event ≡ not none → is_malformed event ≡ none
malformed_is_none (Some event) true e = cc
malformed_is_none (Some event) false e = refl
malformed_is_none None true e = refl
malformed_is_none None false e = cc
