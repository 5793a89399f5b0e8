-- A trace that is read in chunks of whole lines has the listing that it has in one piece.
-- Assumes nothing.
use Prim.Native.Nat.{ℕ, zero, suc, ◌+◌, ◌*◌, ◌/◌, ◌<◌, ◌≤◌}
use native.Mathlib.Nat.{add-zero, add-suc, add_assoc, min-eq_left, min-le_left, min-le_right}
use native.Mathlib.Omega.{arith}
use mathlib.Core.Bool.{Bool, true, false, cond}
use mathlib.Core.List.{List, [], ◌++◌, append_assoc, append-nil}
use mathlib.Core.Path.{◌≡◌, refl, sym, ◌∙◌}
use lib.ListN.{length, get_or, take, drop, length-append, get_or-append}
use lib.Seq.{get_or-append-add, take_at}
use Rattle.state.specs.declared.RackState.{RackState}
use Rattle.trace.proofs.Laws.{text_length, ended_stays, ran_as}
use Rattle.trace.specs.Listing.{line_in, text_in, Listed, Listing, with_line, line_at, listing, lines_within, ran_of, Lists, followed_by, then_listing}
use Rattle.trace.specs.declared.Ran.{Ran}

-- a line of the front, and one of the back
line_front : (s : RackState) (xs ys : List ℕ) (n : ℕ) → 5 * n + 4 < length xs → line_at s (xs ++ ys) n ≡ line_at s xs n
unfolding line_at line_in text_in
line_front s xs ys n h =
    rw (
      get_or-append xs ys 0 (5 * n) (omega arith),
      get_or-append xs ys 0 (5 * n + 1) (omega arith),
      get_or-append xs ys 0 (5 * n + 2) (omega arith),
      get_or-append xs ys 0 (5 * n + 3) (omega arith),
      get_or-append xs ys 0 (5 * n + 4) h,
    )

pub byte_back : (xs ys : List ℕ) (i j : ℕ) → i ≡ length xs + j → get_or (xs ++ ys) i 0 ≡ get_or ys j 0
byte_back xs ys i j e = rw e (get_or-append-add xs ys j 0)

line_back : (s : RackState) (xs ys : List ℕ) (n k : ℕ) → length xs ≡ 5 * n → line_at s (xs ++ ys) (n + k) ≡ line_at s ys k
unfolding line_at line_in text_in
line_back s xs ys n k h =
    rw (
      byte_back xs ys (5 * (n + k)) (5 * k) (omega arith),
      byte_back xs ys (5 * (n + k) + 1) (5 * k + 1) (omega arith),
      byte_back xs ys (5 * (n + k) + 2) (5 * k + 2) (omega arith),
      byte_back xs ys (5 * (n + k) + 3) (5 * k + 3) (omega arith),
      byte_back xs ys (5 * (n + k) + 4) (5 * k + 4) (omega arith),
    )

-- a line more after equal lines
same_turn : (l k : Listing) (f g : RackState → Listed) → l ≡ k → f k.state ≡ g k.state
    → cond l.ended l (with_line l (f l.state)) ≡ cond k.ended k (with_line k (g k.state))
same_turn l k f g same line = rw (same, line)

-- lines of the front alone
front_alone : (s : RackState) (xs ys : List ℕ) (n : ℕ) → 5 * n ≤ length xs → listing s (xs ++ ys) n ≡ listing s xs n
unfolding listing
front_alone s xs ys zero h = refl
front_alone s xs ys (suc n) h =
    same_turn (listing s (xs ++ ys) n) (listing s xs n) (λ t. line_at t (xs ++ ys) n) (λ t. line_at t xs n)
    (front_alone s xs ys n (omega arith)) (line_front (listing s xs n).state xs ys n (omega arith))

line_more : (l k : Listing) (line : Listed) → with_line (followed_by l k) line ≡ followed_by l (with_line k line)
line_more l k line = rw (append_assoc l.text k.text line.text, add_assoc l.lines k.lines 1)

none_more : (l : Listing) → l.ended ≡ false → l ≡ followed_by l (record { state = l.state; lines = 0; text = []; ended = false })
none_more l h = rw (append-nil l.text, add-zero l.lines, ← h)

turn : (l k : Listing) (line : Listed)
    → cond k.ended (followed_by l k) (with_line (followed_by l k) line) ≡ followed_by l (cond k.ended k (with_line k line))
turn l k line = by_end k.ended
  where
    by_end : (b : Bool) → cond b (followed_by l k) (with_line (followed_by l k) line) ≡ followed_by l (cond b k (with_line k line))
    by_end true = refl
    by_end false = line_more l k line

module _ (s : RackState) (xs ys : List ℕ) (n : ℕ) (whole : length xs ≡ 5 * n) where
  going_on : (k : ℕ) → (listing s xs n).ended ≡ false
      → listing s (xs ++ ys) (n + k) ≡ followed_by (listing s xs n) (listing (listing s xs n).state ys k)
  unfolding listing
  going_on zero h = rw (add-zero n, front_alone s xs ys n (omega arith)) (none_more (listing s xs n) h)
  going_on (suc k) h =
      rw (add-suc n k, going_on k h, line_back (listing (listing s xs n).state ys k).state xs ys n k whole)
      (turn (listing s xs n) (listing (listing s xs n).state ys k) (line_at (listing (listing s xs n).state ys k).state ys k))

  ended_before : (k : ℕ) → (listing s xs n).ended ≡ true → listing s (xs ++ ys) (n + k) ≡ listing s xs n
  ended_before k h =
      let same = front_alone s xs ys n (omega arith) in
      ended_stays s (xs ++ ys) n k (rw same h) ∙ same

  -- the law: n lines and then k are the listing of n lines, and then that of k from the state it left
  pub chunks : (k : ℕ) → listing s (xs ++ ys) (n + k) ≡ then_listing (listing s xs n) (listing (listing s xs n).state ys k)
  unfolding then_listing listing
  chunks k = by_end (listing s xs n).ended refl
    where
      by_end : (b : Bool) → (listing s xs n).ended ≡ b
          → listing s (xs ++ ys) (n + k)
          ≡ cond (listing s xs n).ended (listing s xs n) (followed_by (listing s xs n) (listing (listing s xs n).state ys k))
      by_end true h = rw h (ended_before k h)
      by_end false h = rw h (going_on k h)

-- ---- the same of runs, by the contract of `run`

size_more : (l : Listing) (line : Listed) (b : Bool) → length l.text ≡ 22 * l.lines → length line.text ≡ 22
    → length (cond b l (with_line l line)).text ≡ 22 * (cond b l (with_line l line)).lines
size_more l line true h e = h
size_more l line false h e = rw (length-append, h, e) (omega arith)

pub listing_size : (s : RackState) (trace : List ℕ) (n : ℕ) → length (listing s trace n).text ≡ 22 * (listing s trace n).lines
unfolding listing line_at
listing_size s trace zero = refl
listing_size s trace (suc n) = size_more (listing s trace n) _ (listing s trace n).ended (listing_size s trace n) (text_length trace n _ _ _ _ _ _)

-- the whole lines of a trace, and a buffer that has room for them
abbrev pub whole_lines : List ℕ → ℕ
whole_lines trace = length trace / 5

abbrev pub Room : List ℕ → List ℕ → Type 0
Room trace buffer = 22 * whole_lines trace ≤ length buffer

-- what a run made: the bytes at the front of its buffer
abbrev pub made : Ran → List ℕ → List ℕ
made r last = take r.written last

all_lines : (trace buffer : List ℕ) → Room trace buffer → lines_within trace buffer ≡ whole_lines trace
all_lines trace buffer room = min-eq_left (omega arith)

pub by_contract : (s : RackState) (trace buffer : List ℕ) (r : Ran) (last : List ℕ) (n : ℕ) → whole_lines trace ≡ n → Room trace buffer
    → Lists s trace buffer r last → (r ≡ ran_of (listing s trace n)) × (made r last ≡ (listing s trace n).text)
by_contract s trace buffer r last n e room lists =
    let all : lines_within trace buffer ≡ n = all_lines trace buffer room ∙ e in
    let result : r ≡ ran_of (listing s trace n) = rw (← all) lists.result in
    let left : last ≡ (listing s trace n).text ++ drop (22 * (listing s trace n).lines) buffer = rw (← all) lists.left in
    (result, rw (result, left) (take_at (listing s trace n).text _ _ (listing_size s trace n)))

-- a run on the front, one on the back from the state that the first left, and one on the whole
module _ (s : RackState) (xs ys : List ℕ) (n : ℕ) (whole : length xs ≡ 5 * n) (b₁ b₂ b : List ℕ) (room₁ : Room xs b₁) (room₂ : Room ys b₂)
    (room : Room (xs ++ ys) b) (r₁ r₂ r : Ran) (last₁ last₂ last : List ℕ) (run₁ : Lists s xs b₁ r₁ last₁)
    (run₂ : Lists r₁.state ys b₂ r₂ last₂) (run : Lists s (xs ++ ys) b r last) where
  first : (r₁ ≡ ran_of (listing s xs n)) × (made r₁ last₁ ≡ (listing s xs n).text)
  first = by_contract s xs b₁ r₁ last₁ n (omega arith) room₁ run₁

  abbrev state : RackState
  state = (listing s xs n).state

  second : (r₂ ≡ ran_of (listing state ys (whole_lines ys))) × (made r₂ last₂ ≡ (listing state ys (whole_lines ys)).text)
  second = by_contract state ys b₂ r₂ last₂ (whole_lines ys) refl room₂ (rw first.0 at run₂)

  both : (r ≡ ran_of (listing s (xs ++ ys) (n + whole_lines ys))) × (made r last ≡ (listing s (xs ++ ys) (n + whole_lines ys)).text)
  both = by_contract s (xs ++ ys) b r last (n + whole_lines ys) (rw length-append (omega arith)) room run

  -- the bytes of the one run are those of the first and then those of the second, and it ends as the second does
  pub chunked_runs : r₁.ended ≡ false
      → (made r last ≡ made r₁ last₁ ++ made r₂ last₂)
      × (r ≡ record { state = r₂.state; read = r₁.read + r₂.read; written = r₁.written + r₂.written; ended = r₂.ended })
  chunked_runs h =
      let one = going_on s xs ys n whole (whole_lines ys) (rw first.0 at h) in
      let l = listing s xs n in
      let k = listing state ys (whole_lines ys) in
      let read = 5 * l.lines + 5 * k.lines in
      let written = 22 * l.lines + 22 * k.lines in
      let sums = ran_as (followed_by l k) k.state read written k.ended refl (omega arith) (omega arith) refl in
      (both.1 ∙ rw (one, first.1, second.1), both.0 ∙ rw (one, first.0, second.0) (sym sums))

  -- a malformed line of the front ends the listing: nothing of the back is read
  pub chunk_ended : r₁.ended ≡ true → (made r last ≡ made r₁ last₁) × (r ≡ r₁)
  chunk_ended h =
      let one = ended_before s xs ys n whole (whole_lines ys) (rw first.0 at h) in
      (both.1 ∙ rw (one, first.1), both.0 ∙ rw (one, first.0))

-- ---- what a run has read and written lies in what it was given

listing_lines : (s : RackState) (trace : List ℕ) (n : ℕ) → (listing s trace n).lines ≤ n
unfolding listing
listing_lines s trace zero = omega arith
listing_lines s trace (suc n) = by_end (listing s trace n).ended (listing_lines s trace n)
  where
    by_end : (b : Bool) → (listing s trace n).lines ≤ n
        → (cond b (listing s trace n) (with_line (listing s trace n) (line_at (listing s trace n).state trace n))).lines ≤ suc n
    by_end true le = omega arith
    by_end false le = omega arith

module _ (s : RackState) (trace buffer : List ℕ) (r : Ran) (last : List ℕ) (lists : Lists s trace buffer r last) where
  lines_most : (listing s trace (lines_within trace buffer)).lines ≤ lines_within trace buffer
  lines_most = listing_lines s trace (lines_within trace buffer)

  pub read_within : r.read ≤ length trace
  read_within = rw lists.result (omega (arith, lines_most, min-le_left (length trace / 5) (length buffer / 22)))

  pub written_within : r.written ≤ length buffer
  written_within = rw lists.result (omega (arith, lines_most, min-le_right (length trace / 5) (length buffer / 22)))

pub ruleset ran_within = (read_within, written_within)
