-- A refusal is known by its number, and no number of a refusal is 0. Assumes nothing.
use Prim.Native.Nat.{ℕ, ◌<◌}
use mathlib.Core.Path.{◌≡◌, refl, ap, sym, ◌∙◌}
use native.Mathlib.Omega.{arith}
use Rattle.std.proofs.Common.{cond, eqb, Result, Ok, Err}
use Rattle.std.specs.Prelude.{⊤}
use Rattle.refusals.specs.Numbers.{number_of, answer_of}
use Rattle.refusals.specs.declared.Refusal.{Refusal}
use Rattle.refusals.specs.declared.Refusal.TheVariants.{FileLength, Edition, Ranges, Layout, Directory, Columns, Cards, SaveBuffer, NotInTable, Waits, Closed, NobodyWaits, NotHolder, FullLoser, NotWellFormed, Malformed, LineCount, TooManyNumbers, NumberTooGreat, StageBuffer, StartTooGreat, TallyFull, NotRobin, TallyBad}

-- the refusal of a number
abbrev pub named : ℕ → Refusal
named n =
    cond (eqb n 1) FileLength
    (cond (eqb n 2) Edition
    (cond (eqb n 3) Ranges
    (cond (eqb n 4) Layout
    (cond (eqb n 5) Directory
    (cond (eqb n 6) Columns
    (cond (eqb n 7) Cards
    (cond (eqb n 8) SaveBuffer
    (cond (eqb n 11) NotInTable
    (cond (eqb n 12) Waits
    (cond (eqb n 13) Closed
    (cond (eqb n 14) NobodyWaits
    (cond (eqb n 15) NotHolder
    (cond (eqb n 16) FullLoser
    (cond (eqb n 17) NotWellFormed
    (cond (eqb n 18) Malformed
    (cond (eqb n 21) LineCount
    (cond (eqb n 22) TooManyNumbers
    (cond (eqb n 23) NumberTooGreat
    (cond (eqb n 24) StageBuffer
    (cond (eqb n 25) StartTooGreat
    (cond (eqb n 31) TallyFull
    (cond (eqb n 32) NotRobin TallyBad))))))))))))))))))))))

pub named_number : (r : Refusal) → named (number_of r) ≡ r
named_number FileLength = refl
named_number Edition = refl
named_number Ranges = refl
named_number Layout = refl
named_number Directory = refl
named_number Columns = refl
named_number Cards = refl
named_number SaveBuffer = refl
named_number NotInTable = refl
named_number Waits = refl
named_number Closed = refl
named_number NobodyWaits = refl
named_number NotHolder = refl
named_number FullLoser = refl
named_number NotWellFormed = refl
named_number Malformed = refl
named_number LineCount = refl
named_number TooManyNumbers = refl
named_number NumberTooGreat = refl
named_number StageBuffer = refl
named_number StartTooGreat = refl
named_number TallyFull = refl
named_number NotRobin = refl
named_number TallyBad = refl

pub one_refusal : {r q : Refusal} → number_of r ≡ number_of q → r ≡ q
one_refusal {r} {q} e = sym (named_number r) ∙ ap named e ∙ named_number q

pub some_number : (r : Refusal) → 0 < number_of r
some_number FileLength = omega arith
some_number Edition = omega arith
some_number Ranges = omega arith
some_number Layout = omega arith
some_number Directory = omega arith
some_number Columns = omega arith
some_number Cards = omega arith
some_number SaveBuffer = omega arith
some_number NotInTable = omega arith
some_number Waits = omega arith
some_number Closed = omega arith
some_number NobodyWaits = omega arith
some_number NotHolder = omega arith
some_number FullLoser = omega arith
some_number NotWellFormed = omega arith
some_number Malformed = omega arith
some_number LineCount = omega arith
some_number TooManyNumbers = omega arith
some_number NumberTooGreat = omega arith
some_number StageBuffer = omega arith
some_number StartTooGreat = omega arith
some_number TallyFull = omega arith
some_number NotRobin = omega arith
some_number TallyBad = omega arith

-- Two results are equal where they tell the same number and, if they are done, what is done is equal.
pub one_answer : {A : Type 0} (r q : Result A Refusal) → answer_of r ≡ answer_of q → ((x y : A) → r ≡ Ok x → q ≡ Ok y → x ≡ y) → r ≡ q
one_answer (Ok x) (Ok y) number same = ap Ok (same x y refl refl)
one_answer (Ok x) (Err q) number same = absurd (omega (arith, some_number q, number))
one_answer (Err r) (Ok y) number same = absurd (omega (arith, some_number r, number))
one_answer (Err r) (Err q) number same = ap Err (one_refusal number)

-- with nothing beside the number
pub one_of_none : (r q : Result ⊤ Refusal) → answer_of r ≡ answer_of q → r ≡ q
one_of_none r q number = one_answer r q number (λ x y _ _. refl)
