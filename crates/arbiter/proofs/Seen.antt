-- What an event can have been, from its outcome: refused, a request, a release, or a grant, each that is done from a well-formed state.
-- It says nothing of the rules, and nothing of a single field of the state. Assumes nothing.
use Prim.Native.Nat.{ℕ}
use native.Mathlib.Omega.{arith}
use mathlib.Core.Bool.{Bool, true, false, cond, not, ◌||◌}
use mathlib.Core.Logic.{◌≢◌}
use mathlib.Core.Path.{◌≡◌, refl}
use lib.Dec.{eqb}
use borrow.Author.Tests.{eqb-true, eqb-false}
use Rattle.arbiter.proofs.Formed.{formed_of, some_wait}
use Rattle.arbiter.proofs.Refusals.{may_request, may_release, MayArbitrate, may_arbitrate}
use Rattle.arbiter.proofs.Winner.{Won, won, arbitrated_won}
use Rattle.arbiter.specs.Arbitrate.{winner_of, some_loser_full, granted, won_by, arbitrated, arbitrate_refusal, arbitrate_of, event_of}
use Rattle.arbiter.specs.Events.{answered, answered_by, requested, request_refusal, request_of, released, release_refusal, release_of}
use Rattle.arbiter.specs.State.{waits, is_closed, is_holder, is_elected, well_formed}
use Rattle.arbiter.specs.Outcome.{Outcome}
use Rattle.state.specs.declared.RackState.{RackState}
use Rattle.cards.specs.Table.{in_table}

-- an event that grants nothing: the state it returns and its answer
pub data NoGrant (s : RackState) : RackState → ℕ → Type 0 where
  refused : {n : ℕ} → n ≢ 16 → n ≢ 0 → NoGrant s s n
  full : (w : ℕ) → well_formed s ≡ true → some_loser_full s w ≡ true → NoGrant s s 16
  asked : (c : ℕ) → well_formed s ≡ true → in_table s.table.slots c ≡ true → waits s c ≡ false → is_elected s.bus c ≡ false
      → NoGrant s (requested s c) 0
  handed : (c : ℕ) → well_formed s ≡ true → in_table s.table.slots c ≡ true → is_holder s.bus c ≡ true → NoGrant s (released s c) 0

pub data Seen (s : RackState) (o : Outcome) : Type 0 where
  quiet : o.winner ≡ 0 → NoGrant s o.state o.answer → Seen s o
  grant : o.answer ≡ 0 → is_closed s.bus ≡ false → some_loser_full s o.winner ≡ false → o.state ≡ granted s o.winner
      → Won s o.winner → Seen s o

either : {s : RackState} (t : Bool) {x y : Outcome} → (t ≡ true → Seen s x) → (t ≡ false → Seen s y) → Seen s (cond t x y)
either true f g = f refl
either false f g = g refl

-- a refusal that is none of 16
by_refusal : (s : RackState) (n : ℕ) (o : Outcome) → n ≢ 16 → (n ≡ 0 → Seen s o) → Seen s (answered_by n s o)
unfolding answered_by
by_refusal s n o other done = either (eqb n 0) (λ e. done (eqb-true n 0 e)) (λ e. quiet refl (refused other (eqb-false n 0 e)))

-- no chain of an event's first refusals has 16 in it
no_16 : (a b c : Bool) (x y z : ℕ) → x ≢ 16 → y ≢ 16 → z ≢ 16 → cond a x (cond b y (cond c z 0)) ≢ 16
no_16 true b c x y z p q r = p
no_16 false true c x y z p q r = q
no_16 false false true x y z p q r = r
no_16 false false false x y z p q r = λ e. omega arith

request_seen : (s : RackState) (a : ℕ) → Seen s (request_of s a)
unfolding request_refusal
request_seen s a =
    by_refusal s (request_refusal (well_formed s) s a) (answered (requested s a) 0)
    (no_16 (not (well_formed s)) (not (in_table s.table.slots a)) (waits s a || is_elected s.bus a) 17 11 12 (omega arith) (omega arith) (omega arith))
    (λ none. let may = may_request (well_formed s) s a none in quiet refl (asked a may.told may.known may.new may.unelected))

release_seen : (s : RackState) (a : ℕ) → Seen s (release_of s a)
unfolding release_refusal
release_seen s a =
    by_refusal s (release_refusal (well_formed s) s a) (answered (released s a) 0)
    (no_16 (not (well_formed s)) (not (in_table s.table.slots a)) (not (is_holder s.bus a)) 17 11 15 (omega arith) (omega arith) (omega arith))
    (λ none. let may = may_release (well_formed s) s a none in quiet refl (handed a may.told may.known may.holds))

arbitrated_seen : (s : RackState) → MayArbitrate (well_formed s) s → Seen s (arbitrated s)
unfolding won_by
arbitrated_seen s may =
    let some = some_wait s (formed_of s may.told) may.some in
    rw (arbitrated_won s may.told some)
    (either (some_loser_full s (winner_of s)) (λ f. quiet refl (full _ may.told f))
    (λ room. grant refl may.free room refl (won s may.told some)))

arbitrate_seen : (s : RackState) → Seen s (arbitrate_of s)
unfolding arbitrate_refusal
arbitrate_seen s =
    by_refusal s (arbitrate_refusal (well_formed s) s) (arbitrated s)
    (no_16 (not (well_formed s)) (is_closed s.bus) (eqb s.waiters 0) 17 13 14 (omega arith) (omega arith) (omega arith))
    (λ none. arbitrated_seen s (may_arbitrate (well_formed s) s none))

pub seen : (s : RackState) (letter number : ℕ) → Seen s (event_of s letter number)
unfolding event_of
seen s letter number =
    either (eqb letter 81) (λ _. request_seen s number) (λ _.
    either (eqb letter 65) (λ _. arbitrate_seen s) (λ _.
    either (eqb letter 82) (λ _. release_seen s number) (λ _.
    quiet refl (refused (omega arith) (omega arith)))))
