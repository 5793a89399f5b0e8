-- Elections: whom an arbitration elects, whom a release hands the bus, and what stands between the two. Assumes nothing.
use Prim.Native.Nat.{ℕ}
use mathlib.Core.Bool.{Bool, true, false, cond, not, ◌&&◌, true≢false, false≢true}
use mathlib.Core.List.{List, [], ◌∷◌}
use mathlib.Core.Logic.{◌⊎◌, inl, inr, ◌≢◌}
use mathlib.Core.Path.{◌≡◌, refl, sym, ap, ◌∙◌, subst}
use lib.Dec.{eqb}
use lib.Seq.{get_or-set_other}
use borrow.Author.Tests.{eqb-true}
use Rattle.arbiter.proofs.Refusals.{may_release}
use Rattle.arbiter.proofs.Seen.{NoGrant, refused, full, asked, handed, Seen, quiet, grant, seen}
use Rattle.arbiter.proofs.Steps.{winner_stops}
use Rattle.arbiter.specs.Arbitrate.{won_bus, granted, arbitrated, arbitrate_refusal, arbitrate_of, event_of}
use Rattle.arbiter.specs.Events.{answered, answered_by, handed_on, requested, request_of, released, release_refusal, release_of}
use Rattle.arbiter.specs.State.{waits, is_closed, is_elected, well_formed, fresh_of}
use Rattle.state.specs.declared.Bus.{Bus}
use Rattle.state.specs.declared.Bus.TheVariants.{Free, Held, Elected}
use Rattle.arbiter.specs.Outcome.{Outcome}
use Rattle.state.specs.declared.RackState.{RackState}
use Rattle.cards.proofs.Below.{same_or_not}
use Rattle.promises.specs.Elections.{GrantsFree, Elects, HandsOn, HandsToElected, is_release, NoRelease, ElectedStands, ElectedIdle}
use Rattle.promises.specs.Runs.{Event, outcome_of, next, winner, after, grants}
use Rattle.tally.proofs.Effects.{granted-known}

-- ---- an arbitration

won_bus_lem : (s : RackState) → (arbitrate_of s).answer ≡ 0 → (arbitrate_of s).state.bus ≡ won_bus s.bus (arbitrate_of s).winner
unfolding granted
won_bus_lem s done = ap (λ (x : RackState). x.bus) (granted-known s done).state_left

pub grants_free : GrantsFree
grants_free s free done = won_bus_lem s done ∙ ap (λ (b : Bus). won_bus b (arbitrate_of s).winner) free

pub elects : Elects
elects s h held done = won_bus_lem s done ∙ ap (λ (b : Bus). won_bus b (arbitrate_of s).winner) held

-- ---- a release

-- a refused release answers with its refusal, which is not 0
released-done : (s : RackState) (a : ℕ) → (release_of s a).answer ≡ 0 → (release_refusal (well_formed s) s a ≡ 0) × (release_of s a ≡ answered (released s a) 0)
unfolding answered_by
released-done s a done = go (eqb refusal 0) refl
  where
    refusal : ℕ
    refusal = release_refusal (well_formed s) s a

    go : (b : Bool) → eqb refusal 0 ≡ b → (refusal ≡ 0) × (release_of s a ≡ answered (released s a) 0)
    go true e = (eqb-true refusal 0 e, rw e)
    go false e = absurd (false≢true (sym e ∙ rw (rw e at done)))

pub hands_on : HandsOn
hands_on s a done = rw (released-done s a done).1 (refl, refl)

pub hands_to_elected : HandsToElected
hands_to_elected s h e a elected done =
    let known = released-done s a done in
    let holds = (may_release (well_formed s) s a known.0).holds in
    (sym (eqb-true h a (rw elected at holds)), ap (λ (o : Outcome). o.state.bus) known.1 ∙ ap handed_on elected)

-- ---- between an election and that release

-- the event leaves the bus as it is, and grants nothing
record Stands (s : RackState) (o : Outcome) : Type 0 where
  same_bus : o.state.bus ≡ s.bus
  nobody : o.winner ≡ 0

stands_by : (s : RackState) (n : ℕ) (done : Outcome) → Stands s done → Stands s (answered_by n s done)
unfolding answered_by
stands_by s n done h = go (eqb n 0)
  where
    go : (b : Bool) → Stands s (cond b done (answered s n))
    go true = h
    go false = record { same_bus = refl; nobody = refl }

-- an arbitration on a closed bus is refused
closed_stands : (s : RackState) → is_closed s.bus ≡ true → Stands s (arbitrate_of s)
unfolding answered_by arbitrate_refusal
closed_stands s closed = go (well_formed s) (is_closed s.bus) closed
  where
    go : (f c : Bool) → c ≡ true
        → Stands s (cond (eqb (cond (not f) 17 (cond c 13 (cond (eqb s.waiters 0) 14 0))) 0) (arbitrated s)
        (answered s (cond (not f) 17 (cond c 13 (cond (eqb s.waiters 0) 14 0)))))
    go false c e = record { same_bus = refl; nobody = refl }
    go true true e = record { same_bus = refl; nobody = refl }
    go true false e = absurd (false≢true e)

-- a release that is not done is refused
unreleased_stands : (s : RackState) (a : ℕ) → eqb (release_of s a).answer 0 ≡ false → Stands s (release_of s a)
unfolding answered_by
unreleased_stands s a undone = go (eqb (release_refusal (well_formed s) s a) 0) undone
  where
    go : (b : Bool) → eqb (cond b (answered (released s a) 0) (answered s (release_refusal (well_formed s) s a))).answer 0 ≡ false
        → Stands s (cond b (answered (released s a) 0) (answered s (release_refusal (well_formed s) s a)))
    go true u = absurd (true≢false u)
    go false u = record { same_bus = refl; nobody = refl }

event_stands : (s : RackState) (e : Event) → is_closed s.bus ≡ true → is_release s e ≡ false → Stands s (outcome_of s e)
unfolding event_of
event_stands s e closed = go (eqb e.letter 81) (eqb e.letter 65) (eqb e.letter 82)
  where
    a : ℕ
    a = e.number

    by : Bool → Bool → Bool → Outcome
    by q w r = cond q (request_of s a) (cond w (arbitrate_of s) (cond r (release_of s a) (answered s 18)))

    go : (q w r : Bool) → (r && eqb (by q w r).answer 0) ≡ false → Stands s (by q w r)
    go true w r u = stands_by s _ _ (record { same_bus = refl; nobody = refl })
    go false true r u = closed_stands s closed
    go false false true u = unreleased_stands s a u
    go false false false u = record { same_bus = refl; nobody = refl }

pub elected_stands : ElectedStands
unfolding after grants NoRelease
elected_stands s h e [] elected none = (elected, refl)
elected_stands s h e (x ∷ xs) elected none =
    let one = event_stands s x (rw elected) none.0 in
    let rest = elected_stands (next s x) h e xs (one.same_bus ∙ elected) none.1 in
    (rest.0, rw one.nobody rest.1)

-- ---- the elected card does not wait

abbrev Idle : RackState → Type 0
Idle s = (a : ℕ) → is_elected s.bus a ≡ true → waits s a ≡ false

-- after a release nobody is elected
none_elected : (bus : Bus) (a : ℕ) → is_elected (handed_on bus) a ≡ false
none_elected Free a = refl
none_elected (Held h) a = refl
none_elected (Elected h e) a = refl

-- after an arbitration that is done only the winner may be
winner_elected : (bus : Bus) (w a : ℕ) → is_closed bus ≡ false → is_elected (won_bus bus w) a ≡ true → w ≡ a
winner_elected Free w a free is = absurd (false≢true is)
winner_elected (Held h) w a free is = eqb-true w a is
winner_elected (Elected h e) w a free is = absurd (true≢false free)

module _ (s : RackState) (idle : Idle s) where
  idle_quiet : {x : RackState} {n : ℕ} → NoGrant s x n → Idle x
  idle_quiet (refused i j) a is = idle a is
  idle_quiet (full w ok f) a is = idle a is
  idle_quiet (asked c ok t f v) a is = go (same_or_not a c)
    where
      go : (a ≡ c) ⊎ (a ≢ c) → waits (requested s c) a ≡ false
      go (inl p) = absurd (false≢true (sym v ∙ ap (is_elected s.bus) (sym p) ∙ is))
      go (inr d) = get_or-set_other s.waiting c a true false d ∙ idle a is
  idle_quiet (handed c ok t h) a is = absurd (false≢true (sym (none_elected s.bus a) ∙ is))

  idle_granted : (w : ℕ) → is_closed s.bus ≡ false → Idle (granted s w)
  unfolding granted
  idle_granted w free a is = subst (λ (x : ℕ). waits (granted s w) x ≡ false) (winner_elected s.bus w a free is) (winner_stops s w)

  idle_next : (e : Event) → Idle (next s e)
  idle_next e = go (seen s e.letter e.number)
    where
      go : Seen s (outcome_of s e) → Idle (next s e)
      go (quiet z g) = idle_quiet g
      go (grant z free room st won) = rw st (idle_granted (winner s e) free)

after_idle : (es : List Event) (s : RackState) → Idle s → Idle (after s es)
unfolding after
after_idle [] s idle = idle
after_idle (e ∷ es) s idle = after_idle es (next s e) (idle_next s idle e)

pub elected_idle : ElectedIdle
elected_idle t before = after_idle before (fresh_of t) (λ a is. absurd (false≢true is))
