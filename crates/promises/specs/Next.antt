-- Who is next, as statements: of any state. Assumes nothing.
use Rattle.std.specs.Prelude.{ℕ, ◌^◌, ◌<◌, true, ◌≢◌, ◌≡◌}
use Rattle.arbiter.specs.Arbitrate.{arbitrate_of}
use Rattle.arbiter.specs.Next.{next_of}
use Rattle.arbiter.specs.State.{lines_of, well_formed, with_value}
use Rattle.state.specs.declared.RackState.{RackState}

-- Under round-robin the look answers what an arbitration of that state does, refused or done: the same number, and the winner that it would give.
abbrev pub NextWins : Type 0
NextWins = (s : RackState) → s.table.rule ≡ 1 → next_of s ≡ record { answer = (arbitrate_of s).answer; winner = (arbitrate_of s).winner }

-- And it is that winner also from lines that start anywhere.
abbrev pub NextFromAny : Type 0
NextFromAny =
    (s : RackState) (start : ℕ) → start < 2 ^ lines_of s → (next_of s).answer ≡ 0
    → ((arbitrate_of (with_value s start)).answer ≡ 0) × ((arbitrate_of (with_value s start)).winner ≡ (next_of s).winner)

-- Under another rule a well-formed state is refused with 32, whatever its bus and its cards.
abbrev pub OnlyRobin : Type 0
OnlyRobin = (s : RackState) → well_formed s ≡ true → s.table.rule ≢ 1 → next_of s ≡ record { answer = 32; winner = 0 }
