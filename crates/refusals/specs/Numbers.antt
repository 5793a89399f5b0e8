-- The numbers that the screen can show. Assumes nothing.
use Rattle.std.specs.Prelude.{ℕ, Result, Ok, Err}
use Rattle.refusals.specs.declared.Refusal.{Refusal}
use Rattle.refusals.specs.declared.Refusal.TheVariants.{FileLength, Edition, Ranges, Layout, Directory, Columns, Cards, SaveBuffer, NotInTable, Waits, Closed, NobodyWaits, NotHolder, FullLoser, NotWellFormed, Malformed, LineCount, TooManyNumbers, NumberTooGreat, StageBuffer, StartTooGreat, TallyFull, NotRobin, TallyBad}

abbrev pub number_of : Refusal → ℕ
number_of FileLength = 1
number_of Edition = 2
number_of Ranges = 3
number_of Layout = 4
number_of Directory = 5
number_of Columns = 6
number_of Cards = 7
number_of SaveBuffer = 8
number_of NotInTable = 11
number_of Waits = 12
number_of Closed = 13
number_of NobodyWaits = 14
number_of NotHolder = 15
number_of FullLoser = 16
number_of NotWellFormed = 17
number_of Malformed = 18
number_of LineCount = 21
number_of TooManyNumbers = 22
number_of NumberTooGreat = 23
number_of StageBuffer = 24
number_of StartTooGreat = 25
number_of TallyFull = 31
number_of NotRobin = 32
number_of TallyBad = 41

-- the number that stands for a result: 0 where it is done
abbrev pub answer_of : {A : Type 0} → Result A Refusal → ℕ
answer_of (Ok done) = 0
answer_of (Err refusal) = number_of refusal
