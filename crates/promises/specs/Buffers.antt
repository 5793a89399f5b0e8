-- Lent memory, as statements about the contracts themselves: no refusal writes to it, and what is written stands at its front. A contract is `Learnt`,
-- as the toolchain reads it off the source, and `ended` has its parameters. Assumes nothing.
use Rattle.std.specs.Prelude.{ℕ, suc, ◌*◌, ◌%◌, ◌≤◌, List, ◌≢◌, ◌≡◌, drop}
use denote.Triple.Clauses.{at_exit}
use Rattle.arbiter.proofs as arbiter
use Rattle.arbiter.specs.State.{with_marks, with_bus}
use Rattle.arbiter.specs.contracts as arbiter_contracts
use Rattle.cards.proofs as cards
use Rattle.cards.specs.Saved.{as_saved}
use Rattle.cards.specs.contracts as cards_contracts
use Rattle.laptop.proofs as laptop
use Rattle.laptop.specs.contracts as laptop_contracts
use Rattle.lines.proofs as lines
use Rattle.lines.specs.Settled.{as_settled}
use Rattle.lines.specs.contracts as lines_contracts
use Rattle.rack.proofs as rack
use Rattle.rack.specs.contracts as rack_contracts
use Rattle.refusals.specs.Numbers.{answer_of}
use Rattle.report.proofs as report
use Rattle.state.specs.declared.RackState.{RackState}
use Rattle.tally.proofs as tally
use Rattle.tally.specs.contracts as tally_contracts
use Rattle.trace.proofs as trace

-- where the result refuses, all parameters are at exit what they were at entry; `left κ a b` has them at exit, where the lent ones hold b
abbrev pub KeptWhere : {K A R : Type 0} {B : K → A → Type 0} → (K → A → R → A → Type 0) → ((κ : K) (a : A) → B κ a → A) → (R → Type 0) → Type 0
KeptWhere {K} {A} {R} {B} Admits left Refuses = (κ : K) (a : A) (r : R) (b : B κ a) → Admits κ a r (left κ a b) → Refuses r → left κ a b ≡ a

-- No refusal writes to a buffer, nor to a state or a tally that is lent.
pub record NoRefusalWrites : Type 0 where
  pub settle : KeptWhere lines.settle.Reads.Learnt (at_exit lines_contracts.settle.ended) (λ r. answer_of r ≢ 0)
  pub save_table : KeptWhere cards.save_table.Reads.Learnt (at_exit cards_contracts.save_table.ended) (λ r. answer_of r ≢ 0)
  pub save : KeptWhere rack.save.Reads.Learnt (at_exit rack_contracts.save.ended) (λ r. answer_of r ≢ 0)
  -- t, or 100 plus the refusal, is what 256 leaves of the code
  pub rack_settle : KeptWhere laptop.rack_settle.Reads.Learnt (at_exit laptop_contracts.rack_settle.ended) (λ r. 100 ≤ r % 256)
  pub rack_table : KeptWhere laptop.rack_table.Reads.Learnt (at_exit laptop_contracts.rack_table.ended) (λ r. r ≢ 0)
  pub request_in : KeptWhere arbiter.request_in.Reads.Learnt (at_exit arbiter_contracts.request_in.ended) (λ r. answer_of r ≢ 0)
  pub release_in : KeptWhere arbiter.release_in.Reads.Learnt (at_exit arbiter_contracts.release_in.ended) (λ r. answer_of r ≢ 0)
  pub arbitrate_in : KeptWhere arbiter.arbitrate_in.Reads.Learnt (at_exit arbiter_contracts.arbitrate_in.ended) (λ r. answer_of r ≢ 0)
  pub event_tallied : KeptWhere tally.event_tallied.Reads.Learnt (at_exit tally_contracts.event_tallied.ended) (λ r. answer_of r.event ≢ 0)

-- whatever the result: behind the entries that it says are written, a lent buffer has at exit what it had at entry
abbrev pub Beyond : {K A R : Type 0} → (K → A → R → A → Type 0) → (A → List ℕ) → (R → ℕ) → Type 0
Beyond {K} {A} {R} Admits buffer written = (κ : K) (a : A) (r : R) (e : A) → Admits κ a r e → drop (written r) (buffer e) ≡ drop (written r) (buffer a)

-- Nothing is written beyond entry t of a settling, the length of a save, the 66 bytes of a table, what a run says it wrote, or a report's line.
pub record NothingBeyond : Type 0 where
  pub settle : Beyond lines.settle.Reads.Learnt (λ p. p.1.1.1.0.now) (λ r. suc (as_settled r).stages)
  pub save_table : Beyond cards.save_table.Reads.Learnt (λ p. p.1.0.now) (λ r. (as_saved r).len)
  pub save : Beyond rack.save.Reads.Learnt (λ p. p.1.0.now) (λ r. (as_saved r).len)
  -- two bytes for each entry
  pub rack_settle : Beyond laptop.rack_settle.Reads.Learnt (λ p. p.1.1.0.now) (λ r. 2 * suc (r % 256))
  pub rack_table : Beyond laptop.rack_table.Reads.Learnt (λ p. p.1.0.now) (λ r. 66)
  pub run : Beyond trace.run.Reads.Learnt (λ p. p.1.1.0.now) (λ r. r.written)
  pub row_text : Beyond report.row_text.Reads.Learnt (λ p. p.1.1.1.0.now) (λ r. r)

-- whatever the result: how a lent state stands at exit to how it stood at entry
abbrev pub LeavesAs : {K A R : Type 0} → (K → A → R → A → Type 0) → (A → RackState) → (RackState → RackState → Type 0) → Type 0
LeavesAs {K} {A} {R} Admits state Stands = (κ : K) (a : A) (r : R) (e : A) → Admits κ a r e → Stands (state a) (state e)

-- An event on a lent state changes no more of it than what it is for: a request who waits, the counts and how many wait, and a release the bus. An
-- arbitration leaves the table.
pub record NoEventChangesMore : Type 0 where
  pub request_in : LeavesAs arbiter.request_in.Reads.Learnt (λ p. p.1.0.now) (λ s e. e ≡ with_marks s e.waiting e.counts e.waiters)
  pub release_in : LeavesAs arbiter.release_in.Reads.Learnt (λ p. p.1.0.now) (λ s e. e ≡ with_bus s s.last e.bus)
  pub arbitrate_in : LeavesAs arbiter.arbitrate_in.Reads.Learnt (λ p. p.1.0.now) (λ s e. e.table ≡ s.table)

abbrev pub GivesWhere : {K A R E : Type 0} → (K → A → R → E → Type 0) → (R → Type 0) → (R → Type 0) → Type 0
GivesWhere {K} {A} {R} {E} Admits Refuses Says = (κ : K) (a : A) (r : R) (e : E) → Admits κ a r e → Refuses r → Says r

-- A refused settling returns lines, stages and figure 0, a refused save length 0.
pub record RefusedGivesZeros : Type 0 where
  pub settle : GivesWhere lines.settle.Reads.Learnt (λ r. answer_of r ≢ 0)
      (λ r. ((as_settled r).lines ≡ 0) × ((as_settled r).stages ≡ 0) × ((as_settled r).matches ≡ 0))
  pub save_table : GivesWhere cards.save_table.Reads.Learnt (λ r. answer_of r ≢ 0) (λ r. (as_saved r).len ≡ 0)
  pub save : GivesWhere rack.save.Reads.Learnt (λ r. answer_of r ≢ 0) (λ r. (as_saved r).len ≡ 0)
