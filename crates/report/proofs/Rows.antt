-- A line of the square, written entry after entry. Assumes nothing.
use Prim.Native.Nat.{ℕ, zero, suc, ◌+◌, ◌≤◌, ◌<◌}
use native.Mathlib.Nat.{add-zero}
use native.Mathlib.Numerals.{add-one}
use native.Mathlib.Omega.{arith}
use mathlib.Core.Bool.{Bool, true, false, not, cond}
use mathlib.Core.List.{List, [], ◌++◌, append_assoc}
use mathlib.Core.Path.{◌≡◌, refl, sym, ap, ◌∙◌}
use lib.Dec.{eqb}
use lib.ListN.{length, get_or, take, drop, set, length-append, take-append-drop}
use lib.Seq.{take_at, drop-append-add, drop-drop, take-suc-set, drop-set-lt, set_split}
use borrow.Author.Tests.{eq-eqb, ne_eqb}
use Rattle.cards.specs.Below.{rows_below}
use Rattle.cards.specs.Table.{has_card}
use Rattle.report.proofs.Digits.{digits_length}
use Rattle.report.specs.Text.{digits_of, with_digits, spaced, newline, entry_text, row_front, row_text}

-- ---- an entry

pub entry_none : {slot : ℕ} (entry : ℕ) → slot ≡ 0 → entry_text slot entry ≡ []
unfolding entry_text
entry_none entry e = rw (eq-eqb _ _ e)

pub entry_some : {slot : ℕ} (entry : ℕ) → (slot ≡ 0 → ⊥) → entry_text slot entry ≡ spaced 5 entry
unfolding entry_text
entry_some entry ne = rw (ne_eqb _ _ ne)

pub entry_short : (slot entry : ℕ) → length (entry_text slot entry) ≤ 6
unfolding entry_text digits_of
entry_short slot entry = go (not (eqb slot 0))
  where
    go : (t : Bool) → length (cond t (spaced 5 entry) []) ≤ 6
    go true = omega arith
    go false = omega arith

pub nothing_put : (line : List ℕ) (at : ℕ) → line ≡ take at line ++ ([] ++ drop (at + 0) line)
nothing_put line at = rw add-zero (sym (take-append-drop at line))

-- a space, and then its digits
pub entry_put : (line : List ℕ) (at entry : ℕ) → at + 6 ≤ length line
    → with_digits (at + 1) 5 entry (set line at 32) ≡ take at line ++ (spaced 5 entry ++ drop (at + 6) line)
entry_put line at entry fits =
    let inside : at < length line = omega arith in
    let past : at + 1 + 5 ≡ at + 6 = omega arith in
    let after : at < at + 6 = omega arith in
    rw (past, add-one, take-suc-set, drop-set-lt, append_assoc)

-- ---- one text after another, at the front of a buffer

pub append_put : (done buffer line text : List ℕ) (at : ℕ) → at ≡ length done → line ≡ done ++ drop at buffer
    → take at line ++ (text ++ drop (at + length text) line) ≡ (done ++ text) ++ drop (at + length text) buffer
append_put done buffer line text at e whole =
    rw (whole, take_at done (drop at buffer) at (sym e), append_assoc)
    (ap (λ (r : List ℕ). done ++ (text ++ r)) (rw e (rw (drop-append-add, drop-drop))))

-- ---- the line

-- the number goes first
pub number_put : (number : ℕ) (buffer : List ℕ) (at : ℕ) → 2 ≤ at → drop at (with_digits 0 2 number buffer) ≡ drop at buffer
unfolding digits_of
number_put number buffer zero l = absurd (omega arith)
number_put number buffer (suc zero) l = absurd (omega arith)
number_put number buffer (suc (suc at)) l = let two : 2 + at ≡ suc (suc at) = omega arith in rw two at (drop-drop at 2 buffer)

module _ (number : ℕ) (slots row : List ℕ) where
  abbrev front : ℕ → List ℕ
  front n = row_front number slots row n

  pub front_first : 2 ≡ length (front 0)
  unfolding digits_of rows_below
  front_first = refl

  pub front_put : (buffer line : List ℕ) → line ≡ with_digits 0 2 number buffer → line ≡ front 0 ++ drop 2 line
  unfolding digits_of rows_below
  front_put buffer line e = rw e

  front_long : (n : ℕ) → 2 ≤ length (front n)
  front_long n = rw (length-append, digits_length) (omega arith)

  module _ (c : ℕ) where
    abbrev text : List ℕ
    text = entry_text (get_or slots c 0) (get_or row c 0)

    front_next : front (c + 1) ≡ front c ++ text
    unfolding rows_below has_card entry_text
    front_next = rw (add-one c) (sym (append_assoc (digits_of 2 number) _ _))

    pub next_length : length (front (c + 1)) ≡ length (front c) + length text
    next_length = rw (front_next, length-append (front c) text)

    pub next_put : (buffer before last : List ℕ) (at next : ℕ) → at ≡ length (front c) → before ≡ front c ++ drop at buffer
        → (next ≡ at + length text) × (last ≡ take at before ++ (text ++ drop (at + length text) before)) → last ≡ front (c + 1) ++ drop next buffer
    next_put buffer before last at next e so_far put = rw (put.1, put.0, front_next) (append_put (front c) buffer before text at e so_far)

  -- and the newline last
  pub row_put : (buffer start line : List ℕ) (at : ℕ) → at ≡ length (front 64) → at < length line → start ≡ with_digits 0 2 number buffer
      → line ≡ front 64 ++ drop at start
      → (at + 1 ≡ length (row_text number slots row))
      × (set line at 10 ≡ row_text number slots row ++ drop (length (row_text number slots row)) buffer)
  unfolding row_text
  row_put buffer start line at e inside first whole =
      let long : length (front 64 ++ newline) ≡ at + 1 = rw (length-append, e) in
      let past : 2 ≤ at = rw e (front_long 64) in
      let all : line ≡ front 64 ++ drop at buffer = whole ∙ ap (λ (r : List ℕ). front 64 ++ r) (rw first (number_put number buffer at past)) in
      let put : set line at 10 ≡ take at line ++ (newline ++ drop (at + 1) line) = rw (add-one at) (set_split line at 10 inside) in
      (sym long, put ∙ rw long (append_put (front 64) buffer line newline at e all))
