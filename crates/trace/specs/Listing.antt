-- The listing of a trace, line after line. Assumes nothing.
use Rattle.std.specs.Prelude.{ℕ, zero, suc, ◌+◌, ◌*◌, ◌/◌, min, Bool, false, cond, List, [], ◌++◌, ◌≡◌, length, get_or, drop}
use Rattle.arbiter.specs.Outcome.{Outcome}
use Rattle.state.specs.declared.RackState.{RackState}
use Rattle.trace.specs.Line.{Line, line_of, is_malformed, line_outcome, line_text}
use Rattle.trace.specs.declared.Ran.{Ran}

-- line n of a trace, five bytes each
unfoldable pub line_in : List ℕ → ℕ → Line
line_in trace n =
    line_of (get_or trace (5 * n) 0) (get_or trace (5 * n + 1) 0) (get_or trace (5 * n + 2) 0) (get_or trace (5 * n + 3) 0) (get_or trace (5 * n + 4) 0)

-- the text that answers it
unfoldable pub text_in : List ℕ → ℕ → Line → ℕ → ℕ → ℕ → ℕ → ℕ → List ℕ
text_in trace n = line_text (get_or trace (5 * n) 0) (get_or trace (5 * n + 1) 0) (get_or trace (5 * n + 2) 0) (get_or trace (5 * n + 3) 0)

-- what one line makes: the state after it, its text, and whether it ends the listing
pub record Listed : Type 0 where
  pub state : RackState
  pub text : List ℕ
  pub ended : Bool

abbrev pub listed_of : List ℕ → ℕ → Line → Outcome → Listed
listed_of trace n line o = record {
  state = o.state;
  text = text_in trace n line o.answer o.winner o.lines o.stages o.matches;
  ended = is_malformed line;
}

-- line n in the state s
unfoldable pub line_at : RackState → List ℕ → ℕ → Listed
line_at s trace n = listed_of trace n (line_in trace n) (line_outcome s (line_in trace n))

-- what the lines so far made: the state, their number, the listing's text, and whether a malformed line ended it
pub record Listing : Type 0 where
  pub state : RackState
  pub lines : ℕ
  pub text : List ℕ
  pub ended : Bool

abbrev pub no_lines : RackState → Listing
no_lines s = record { state = s; lines = 0; text = []; ended = false }

abbrev pub with_line : Listing → Listed → Listing
with_line l line = record { state = line.state; lines = l.lines + 1; text = l.text ++ line.text; ended = line.ended }

-- the listing of a trace's first n lines
unfoldable pub listing : RackState → List ℕ → ℕ → Listing
listing s trace zero = no_lines s
listing s trace (suc n) =
    cond (listing s trace n).ended (listing s trace n)
    (with_line (listing s trace n) (line_at (listing s trace n).state trace n))

-- the whole lines of a trace for which a buffer has room
abbrev pub lines_within : List ℕ → List ℕ → ℕ
lines_within trace buffer = min (length trace / 5) (length buffer / 22)

abbrev pub ran_of : Listing → Ran
ran_of l = record { state = l.state; read = 5 * l.lines; written = 22 * l.lines; ended = l.ended }

-- the answer and the buffer's last contents: the listing at its front
pub record Lists (s : RackState) (trace buffer : List ℕ) (r : Ran) (last : List ℕ) : Type 0 where
  pub result : r ≡ ran_of (listing s trace (lines_within trace buffer))
  pub left : last ≡ (listing s trace (lines_within trace buffer)).text ++ drop (22 * (listing s trace (lines_within trace buffer)).lines) buffer

-- one listing and then another, which goes on from the state that the first one left; a listing that ended is the last
abbrev pub followed_by : Listing → Listing → Listing
followed_by l k = record { state = k.state; lines = l.lines + k.lines; text = l.text ++ k.text; ended = k.ended }

unfoldable pub then_listing : Listing → Listing → Listing
then_listing l k = cond l.ended l (followed_by l k)
