-- How a line is read, from its five bytes. Assumes nothing.
use Prim.Native.Nat.{ℕ, ◌+◌, ◌*◌, ◌≤◌, ◌<◌}
use native.Mathlib.Omega.{arith}
use mathlib.Core.Bool.{Bool, true, false, cond, not, ◌&&◌, ◌||◌}
use mathlib.Core.List.{List}
use mathlib.Core.Path.{◌≡◌, refl, ◌∙◌}
use lib.Dec.{eqb}
use lib.ListN.{length, get_or}
use Rattle.std.proofs.Common.{Option, Some, None}
use Rattle.trace.specs.Line.{Line, is_digit, digit_of, shaped, event_by, two_digits, line_of, parse_of}

-- what a line is by the four tests of its shape, with its digits and what its letter asks for
abbrev told : Bool → Bool → Bool → Bool → Line → Line
told gap tens ones end event = cond (gap && tens && ones && end) event None

abbrev counted : Bool → ℕ → Option ℕ
counted digit value = cond digit (Some value) None

misplaced : (gap tens ones end : Bool) (event : Line) → (not gap || not end) ≡ true → None ≡ told gap tens ones end event
misplaced false tens ones end event bad = refl
misplaced true false ones end event bad = refl
misplaced true true false end event bad = refl
misplaced true true true false event bad = refl
misplaced true true true true event bad = cc

first_missing : (gap tens ones end : Bool) (t : ℕ) (event : Line) → None ≡ counted tens t → None ≡ told gap tens ones end event
first_missing false tens ones end t event none = refl
first_missing true false ones end t event none = refl
first_missing true true ones end t event none = cc

second_missing : (gap tens ones end : Bool) (o : ℕ) (event : Line) → None ≡ counted ones o → None ≡ told gap tens ones end event
second_missing false tens ones end o event none = refl
second_missing true false ones end o event none = refl
second_missing true true false end o event none = refl
second_missing true true true end o event none = cc

in_place : (gap tens ones end : Bool) (t o x y : ℕ) (asks : ℕ → Line) → (not gap || not end) ≡ false → Some x ≡ counted tens t → Some y ≡ counted ones o
    → asks (x * 10 + y) ≡ told gap tens ones end (asks (t * 10 + o))
in_place false tens ones end t o x y asks placed first second = cc
in_place true false ones end t o x y asks placed first second = cc
in_place true true false end t o x y asks placed first second = cc
in_place true true true false t o x y asks placed first second = cc
in_place true true true true t o x y asks placed first second = cc

module _ (line : List ℕ) (least : 5 ≤ length line) (most : length line < 6) where
  abbrev byte : ℕ → ℕ
  byte i = get_or line i 0

  five : line_of (byte 0) (byte 1) (byte 2) (byte 3) (byte 4) ≡ parse_of line
  five = let size : length line ≡ 5 = omega arith in rw size

  pub line_misplaced : (not (eqb (byte 1) 32) || not (eqb (byte 4) 10)) ≡ true → None ≡ parse_of line
  unfolding line_of shaped
  line_misplaced bad = misplaced _ _ _ _ _ bad ∙ five

  pub first_no_digit : None ≡ digit_of (byte 2) → None ≡ parse_of line
  unfolding line_of shaped
  first_no_digit none = first_missing _ _ _ _ _ _ none ∙ five

  pub second_no_digit : None ≡ digit_of (byte 3) → None ≡ parse_of line
  unfolding line_of shaped
  second_no_digit none = second_missing (eqb (byte 1) 32) (is_digit (byte 2)) _ (eqb (byte 4) 10) _ (event_by (byte 0) (two_digits (byte 2) (byte 3))) none ∙ five

  pub line_read : (x y : ℕ) → (not (eqb (byte 1) 32) || not (eqb (byte 4) 10)) ≡ false → Some x ≡ digit_of (byte 2) → Some y ≡ digit_of (byte 3)
      → event_by (byte 0) (x * 10 + y) ≡ parse_of line
  unfolding line_of shaped
  line_read x y placed first second = in_place _ _ _ _ _ _ x y (event_by (byte 0)) placed first second ∙ five

pub ruleset parsed = (line_misplaced, first_no_digit, second_no_digit, line_read)
