-- What a request and a release make of a state, as documents 01 and 02 have it. Assumes nothing.
use Rattle.std.specs.Prelude.{ℕ, Bool, true, cond, not, ◌||◌, eqb, set}
use Rattle.arbiter.specs.State.{waits, is_holder, is_elected, well_formed, with_marks, with_bus}
use Rattle.state.specs.declared.Bus.{Bus}
use Rattle.state.specs.declared.Bus.TheVariants.{Free, Held, Elected}
use Rattle.arbiter.specs.Outcome.{Outcome}
use Rattle.state.specs.declared.RackState.{RackState}
use Rattle.cards.specs.Table.{in_table}
use Rattle.rules.specs.Counts.{one_waits}

-- an answer with winner, lines, stages and matches 0
abbrev pub answered : RackState → ℕ → Outcome
answered s n = record { state = s; answer = n; winner = 0; lines = 0; stages = 0; matches = 0 }

-- refused with the number n and the state as given, or, where n is 0, done with this outcome
unfoldable pub answered_by : ℕ → RackState → Outcome → Outcome
answered_by n s done = cond (eqb n 0) done (answered s n)

-- Each event stands here twice: as it is told whether the state is well formed, so that a run over many events need not find that out at each,
-- and told the truth, which is the event of document 01.

-- a request: 17, 11, 12 by a card that waits or is elected, or the card a begins to wait, with count 0
unfoldable pub request_refusal : Bool → RackState → ℕ → ℕ
request_refusal formed s a = cond (not formed) 17 (cond (not (in_table s.table.slots a)) 11 (cond (waits s a || is_elected s.bus a) 12 0))

abbrev pub requested : RackState → ℕ → RackState
requested s a = with_marks s (set s.waiting a true) (set s.counts a 0) (one_waits s.waiters)

abbrev pub request_by : Bool → RackState → ℕ → Outcome
request_by formed s a = answered_by (request_refusal formed s a) s (answered (requested s a) 0)

abbrev pub request_of : RackState → ℕ → Outcome
request_of s a = request_by (well_formed s) s a

-- a release: 17, 11, 15, or the bus goes to the elected card, or becomes free, and the last winner stays
unfoldable pub release_refusal : Bool → RackState → ℕ → ℕ
release_refusal formed s a = cond (not formed) 17 (cond (not (in_table s.table.slots a)) 11 (cond (not (is_holder s.bus a)) 15 0))

abbrev pub handed_on : Bus → Bus
handed_on Free = Free
handed_on (Held h) = Free
handed_on (Elected h e) = Held e

abbrev pub released : RackState → ℕ → RackState
released s a = with_bus s s.last (handed_on s.bus)

abbrev pub release_by : Bool → RackState → ℕ → Outcome
release_by formed s a = answered_by (release_refusal formed s a) s (answered (released s a) 0)

abbrev pub release_of : RackState → ℕ → Outcome
release_of s a = release_by (well_formed s) s a
