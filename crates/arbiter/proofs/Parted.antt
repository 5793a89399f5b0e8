-- A state that is put together of parts: each part stands under its own name, and nothing is lost or made up. Assumes nothing.
use Rattle.std.proofs.Common.{◌≡◌, refl}
use Rattle.arbiter.proofs as arbiter
use Rattle.arbiter.specs.Parts.{state_of, hold_of}
use Rattle.arbiter.specs.declared.parts.Hold.{Hold}
use Rattle.cards.specs.declared.Table.{Table}
use Rattle.contest.specs.Shown.{marks_of}
use Rattle.rules.specs.Marks.{Marks}
use Rattle.state.specs.declared.RackState.{RackState}

-- a state is the one of its own parts
pub state_again : (s : RackState) → state_of s.table (marks_of s) (hold_of s) ≡ s
state_again s = refl

-- and so says the contract of who puts it together
pub given_back : (κ : _) (s r : RackState) (e : _)
    → arbiter.parts.state_of.Reads.Learnt κ (s.table, (s.waiting, (s.counts, (s.batch, (s.inhibited, (hold_of s, tt)))))) r e → r ≡ s
given_back κ s r e learnt = learnt

-- what is left of it beside the table and the marks is what was given
pub hold_again : (table : Table) (m : Marks) (hold : Hold) → let s = state_of table m hold in
    (s.last ≡ hold.last) × (s.bus ≡ hold.bus) × (s.waiters ≡ hold.waiters) × (s.value ≡ hold.value)
hold_again table m hold = (refl, refl, refl, refl)
