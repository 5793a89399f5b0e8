-- While there is room a counted event is the event, and so a ledger runs as the rack does. Assumes nothing.
use Prim.Native.Nat.{ℕ, ◌+◌, ◌≤◌, ◌<◌}
use native.Mathlib.Omega.{arith}
use mathlib.Core.Bool.{Bool, true, false, ◌||◌}
use mathlib.Core.List.{List, [], ◌∷◌}
use mathlib.Core.Path.{◌≡◌, refl, sym, ap, ◌∙◌}
use lib.Dec.{eqb}
use lib.ListN.{length}
use borrow.Author.Tests.{eqb-false, lt-leb}
use Rattle.arbiter.proofs.Told.{refused_keeps}
use Rattle.arbiter.specs.Arbitrate.{event_of}
use Rattle.arbiter.specs.Runs.{Event, after}
use Rattle.arbiter.specs.Outcome.{Outcome}
use Rattle.state.specs.declared.RackState.{RackState}
use Rattle.cards.specs.declared.Table.{Table}
use Rattle.tally.proofs.Laws.{cond_same}
use Rattle.tally.proofs.Ledger.{True, true_start, true_next, true_good}
use Rattle.tally.specs.Ledger.{Ledger, start, past_after, next, run, history_from}
use Rattle.tally.specs.Tally.{Square, tally_good, counted_answer, counted_by, counted_of}
use Rattle.tally.specs.declared.Tally.{Tally}

-- ---- one event

module _ (t : Tally) (q : Square) (s : RackState) (letter a : ℕ) (room : t.events < 65535) (good : tally_good t q ≡ true) where
  abbrev o : Outcome
  o = event_of s letter a

  answer_as_event : counted_answer t q o.answer ≡ o.answer
  unfolding counted_answer
  answer_as_event = rw (lt-leb 65535 t.events room, good) (cond_same (eqb o.answer 17 || eqb o.answer 18))

  pub as_event : (counted_of t q s letter a).outcome ≡ o
  unfolding counted_of counted_by
  as_event = rw answer_as_event (by_case (eqb o.answer 0) refl)
    where
      by_case : (v : Bool) → eqb o.answer 0 ≡ v → (counted_by o.answer t s letter a o).outcome ≡ o
      by_case true e = rw e
      by_case false e = rw e (sym (refused_keeps s letter a (eqb-false o.answer 0 e)))

-- ---- a run

-- an event adds one to the events counted, or nothing
counted_at_most : (n : ℕ) (t : Tally) (s : RackState) (letter a : ℕ) (o : Outcome)
    → (t.events ≤ (counted_by n t s letter a o).tally.events) × ((counted_by n t s letter a o).tally.events ≤ t.events + 1)
unfolding counted_by
counted_at_most n t s letter a o = by_case (eqb n 0) refl
  where
    by_case : (v : Bool) → eqb n 0 ≡ v → (t.events ≤ (counted_by n t s letter a o).tally.events) × ((counted_by n t s letter a o).tally.events ≤ t.events + 1)
    by_case true e = rw e (omega arith, omega arith)
    by_case false e = rw e (omega arith, omega arith)

one_at_most : (g : Ledger) (letter a : ℕ)
    → (g.tally.events ≤ (next g letter a).tally.events) × ((next g letter a).tally.events ≤ g.tally.events + 1)
unfolding next counted_of
one_at_most g letter a =
    let o = event_of g.state letter a in
    counted_at_most (counted_answer g.tally g.square o.answer) g.tally g.state letter a o

events_grow : (g : Ledger) (es : List Event) → g.tally.events ≤ (run g es).tally.events
unfolding run
events_grow g [] = omega arith
events_grow g (e ∷ es) = omega (arith, (one_at_most g e.letter e.number).0, events_grow (next g e.letter e.number) es)

pub events_at_most : (g : Ledger) (es : List Event) → (run g es).tally.events ≤ g.tally.events + length es
unfolding run
events_at_most g [] = omega arith
events_at_most g (e ∷ es) = omega (arith, (one_at_most g e.letter e.number).1, events_at_most (next g e.letter e.number) es)

-- the ledger's state and history are the rack's own
pub record Runs (g last : Ledger) (es : List Event) : Type 0 where
  pub state : last.state ≡ after g.state es
  pub past : last.past ≡ history_from g.past g.state es

runs_more : (g last : Ledger) (e : Event) (es : List Event)
    → (counted_of g.tally g.square g.state e.letter e.number).outcome ≡ event_of g.state e.letter e.number
    → Runs (next g e.letter e.number) last es → Runs g last (e ∷ es)
unfolding next after history_from
runs_more g last e es same rest = record {
  state = rest.state ∙ ap (λ (x : Outcome). after x.state es) same;
  past = rest.past ∙ ap (λ (x : Outcome). history_from (past_after e.letter e.number x g.past) x.state es) same;
}

runs_on : (g : Ledger) (es : List Event) → True g → (run g es).tally.events < 65535 → Runs g (run g es) es
unfolding run after history_from
runs_on g [] known room = record { state = refl; past = refl }
runs_on g (e ∷ es) known room =
    let later = next g e.letter e.number in
    let left : g.tally.events < 65535 = omega (arith, events_grow later es, (one_at_most g e.letter e.number).0) in
    runs_more g (run later es) e es (as_event g.tally g.square g.state e.letter e.number left (true_good g known))
    (runs_on later es (true_next g e.letter e.number known) room)

pub runs : (t : Table) (es : List Event) → (run (start t) es).tally.events < 65535 → Runs (start t) (run (start t) es) es
runs t es room = runs_on (start t) es (true_start t) room
