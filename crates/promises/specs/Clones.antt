-- Cloned cards, as statements: how many numbers equal the settled lines, in a settling, in an event and in the code that C is given. Assumes nothing.
use Rattle.std.specs.Prelude.{ℕ, ◌+◌, ◌/◌, ◌%◌, ◌^◌, ◌≤◌, ◌<◌, false, List, ◌≢◌, ◌≡◌, length}
use Rattle.arbiter.specs.Arbitrate.{arbitrate_of}
use Rattle.state.specs.declared.RackState.{RackState}
use Rattle.laptop.specs.Settle.{SettlesBytes}
use Rattle.laptop.specs.Words.{words}
use Rattle.lines.specs.Greatest.{greatest}
use Rattle.lines.specs.Settle.{refusal, done}
use Rattle.lines.specs.Settling.{stages}
use Rattle.promises.specs.Runs.{Event, outcome_of, is_grant, times}
use Rattle.promises.specs.Settling.{AllBelow}

-- a done settling shows how often the greatest number stands in its list, from whatever lines: above 1 that number is the one to look for
abbrev pub Named : Type 0
Named = (m : ℕ) (numbers : List ℕ) (start : ℕ) → AllBelow m numbers → start < 2 ^ m → (done m numbers start).matches ≡ times (greatest numbers) numbers

-- a done arbitration shows 1, in any state
abbrev pub ShowsOne : Type 0
ShowsOne = (s : RackState) → (arbitrate_of s).answer ≡ 0 → (arbitrate_of s).matches ≡ 1

-- and an event that grants nothing shows 0
abbrev pub ShowsNone : Type 0
ShowsNone = (s : RackState) (e : Event) → is_grant s e ≡ false → (outcome_of s e).matches ≡ 0

-- what C learns from the code r of a settling: t and the figure of one that is done, the number of one that is refused, and which of the two it is
pub record Taken (m : ℕ) (numbers : List ℕ) (start room r : ℕ) : Type 0 where
  pub stages : refusal m numbers start room ≡ 0 → r % 256 ≡ stages m numbers start
  pub figure : refusal m numbers start room ≡ 0 → r / 256 ≡ times (greatest numbers) numbers
  pub refused : refusal m numbers start room ≢ 0 → r ≡ 100 + refusal m numbers start room
  pub apart : r % 256 < 100 → refusal m numbers start room ≡ 0
  pub apart_refused : 100 ≤ r % 256 → refusal m numbers start room ≢ 0

-- whatever C hands over, the code can be taken apart
abbrev pub CodeRead : Type 0
CodeRead =
    (m : ℕ) (numbers : List ℕ) (start : ℕ) (buffer : List ℕ) (r : ℕ) (last : List ℕ) → SettlesBytes m numbers start buffer r last
    → Taken m (words numbers) start (length buffer / 2) r
