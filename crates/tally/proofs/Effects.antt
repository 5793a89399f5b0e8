-- What a done event was: a request by a card that did not wait, a grant to a card that did, or a release. Assumes nothing.
use Prim.Native.Nat.{ℕ, ◌<◌}
use native.Mathlib.Omega.{arith}
use mathlib.Core.Bool.{Bool, true, false, cond, not, ◌&&◌, ◌||◌}
use mathlib.Core.List.{List}
use mathlib.Core.Path.{◌≡◌, refl, sym, ap, ◌∙◌}
use lib.Dec.{eqb}
use lib.ListN.{length, get_or, set}
use lib.Seq.{get_or-set_same, get_or-set_other}
use borrow.Author.Tests.{eqb-true, eqb-false, eq-eqb, lt-ltb}
use Rattle.cards.proofs.TableKnown.{table_range}
use Rattle.lines.specs.Settled.{Settled}
use Rattle.arbiter.proofs.Formed.{Formed, formed_of, some_wait}
use Rattle.arbiter.proofs.Numbers.{competitor_waits}
use Rattle.arbiter.proofs.Refusals.{may_request, MayArbitrate, may_arbitrate}
use Rattle.arbiter.proofs.Winner.{Won, won, arbitrated_won}
use Rattle.arbiter.specs.Arbitrate.{some_loser_full, granted, grant_to, settling_of, winner_of, won_by, arbitrated, arbitrate_refusal, arbitrate_of}
use Rattle.arbiter.specs.Events.{answered, answered_by, requested, request_refusal, request_of, released, release_refusal, release_of}
use Rattle.rules.specs.Marks.{is_in}
use Rattle.arbiter.specs.State.{waits, well_formed}
use Rattle.arbiter.specs.Outcome.{Outcome}
use Rattle.state.specs.declared.RackState.{RackState}
use Rattle.tally.specs.History.{Happening, asked, granted as grantedTo, released as releasedBy}
use Rattle.tally.specs.Tally.{is_grant}

-- whether the card b waits after it, where before it the card waits as v says
unfoldable pub flag_after : Happening → Bool → ℕ → Bool
flag_after (asked a) v b = eqb b a || v
flag_after (grantedTo w) v b = not (eqb b w) && v
flag_after (releasedBy a) v b = v

unfoldable pub is_granted : Happening → Bool
is_granted (asked a) = false
is_granted (grantedTo w) = true
is_granted (releasedBy a) = false

-- the happening x leads from the state s to the outcome o
pub record Effect (s : RackState) (x : Happening) (o : Outcome) : Type 0 where
  pub flags : (b : ℕ) → waits o.state b ≡ flag_after x (waits s b) b
  pub grant : is_grant o ≡ is_granted x

flag_set : (l : List Bool) (w b : ℕ) (v : Bool) → w < length l → is_in (set l w v) b ≡ cond (eqb b w) v (is_in l b)
flag_set l w b v h = by_case (eqb b w) refl
  where
    by_case : (u : Bool) → eqb b w ≡ u → get_or (set l w v) b false ≡ cond u v (get_or l b false)
    by_case true e = rw (eqb-true b w e) (get_or-set_same l w v false h)
    by_case false e = get_or-set_other l w b v false (eqb-false b w e)

cond_or : (u v : Bool) → cond u true v ≡ (u || v)
cond_or true v = refl
cond_or false v = refl

cond_not : (u v : Bool) → cond u false v ≡ (not u && v)
cond_not true v = refl
cond_not false v = refl

-- an answer of 0 means that no refusal was given
done_open : (n : ℕ) (s : RackState) (done : Outcome) → (answered_by n s done).answer ≡ 0 → n ≡ 0
unfolding answered_by
done_open n s done h = by_case (eqb n 0) refl
  where
    by_case : (v : Bool) → eqb n 0 ≡ v → n ≡ 0
    by_case true e = eqb-true n 0 e
    by_case false e = rw e at h

open_is : (n : ℕ) (s : RackState) (done : Outcome) → n ≡ 0 → answered_by n s done ≡ done
unfolding answered_by
open_is n s done h = rw (eq-eqb n 0 h)

-- ---- a request

module _ (s : RackState) (a : ℕ) (h : (request_of s a).answer ≡ 0) where
  asks : request_refusal (well_formed s) s a ≡ 0
  asks = done_open (request_refusal (well_formed s) s a) s (answered (requested s a) 0) h

  pub asked_below : a < 64
  asked_below = table_range s.table.slots a (may_request (well_formed s) s a asks).known

  pub asked_new : waits s a ≡ false
  asked_new = (may_request (well_formed s) s a asks).new

  pub asked_effect : Effect s (asked a) (request_of s a)
  unfolding flag_after is_granted
  asked_effect =
      let f : Formed s = formed_of s (may_request (well_formed s) s a asks).told in
      rw (open_is (request_refusal (well_formed s) s a) s (answered (requested s a) 0) asks) (record {
        flags = λ b. flag_set s.waiting a b true (omega (arith, asked_below, f.waiting_size)) ∙ cond_or (eqb b a) (waits s b);
        grant = refl;
      })

-- ---- a release

pub released_effect : (s : RackState) (a : ℕ) → (release_of s a).answer ≡ 0 → Effect s (releasedBy a) (release_of s a)
unfolding flag_after is_granted
released_effect s a h =
    let none : release_refusal (well_formed s) s a ≡ 0 = done_open (release_refusal (well_formed s) s a) s (answered (released s a) 0) h in
    rw (open_is (release_refusal (well_formed s) s a) s (answered (released s a) 0) none) (record { flags = λ b. refl; grant = refl })

-- ---- an arbitration

-- 16, or the grant
not_full : (v : Bool) (s : RackState) (w : ℕ) (t : Settled) → (cond v (answered s 16) (grant_to s w t)).answer ≡ 0
    → cond v (answered s 16) (grant_to s w t) ≡ grant_to s w t
not_full true s w t h = let none : ◌≡◌ {A = ℕ} 16 0 = h in absurd (omega arith)
not_full false s w t h = refl

-- what a done arbitration leaves, and that its winner waited
pub record Granted (s : RackState) (o : Outcome) : Type 0 where
  pub state_left : o.state ≡ granted s o.winner
  pub answer_done : o.answer ≡ 0
  pub winner_won : Won s o.winner

module _ (s : RackState) (h : (arbitrate_of s).answer ≡ 0) where
  wins : MayArbitrate (well_formed s) s
  wins = may_arbitrate (well_formed s) s (done_open (arbitrate_refusal (well_formed s) s) s (arbitrated s) h)

  to_winner : arbitrate_of s ≡ grant_to s (winner_of s) (settling_of s)
  unfolding won_by
  to_winner =
      let ahead : arbitrate_of s ≡ arbitrated s =
      open_is (arbitrate_refusal (well_formed s) s) s (arbitrated s) (done_open (arbitrate_refusal (well_formed s) s) s (arbitrated s) h)
      in
      let by-settling = arbitrated_won s wins.told (some_wait s (formed_of s wins.told) wins.some) in
      ahead ∙ by-settling ∙ not_full (some_loser_full s (winner_of s)) s (winner_of s) (settling_of s) (sym (ap (λ (o : Outcome). o.answer) (ahead ∙ by-settling)) ∙ h)

  pub granted-known : Granted s (arbitrate_of s)
  granted-known = rw to_winner (record { state_left = refl; answer_done = refl; winner_won = won s wins.told (some_wait s (formed_of s wins.told) wins.some) })

  pub granted_waited : waits s (arbitrate_of s).winner ≡ true
  granted_waited = competitor_waits s _ granted-known.winner_won.competing

  pub granted_effect : Effect s (grantedTo (arbitrate_of s).winner) (arbitrate_of s)
  unfolding flag_after is_granted granted
  granted_effect =
      let w = (arbitrate_of s).winner in
      let known = granted-known.winner_won in
      record {
        flags = λ b. ap (λ (u : RackState). waits u b) granted-known.state_left
            ∙ flag_set s.waiting w b false (omega (arith, known.below, known.formed.waiting_size)) ∙ cond_not (eqb b w) (waits s b);
        grant = rw (eq-eqb _ 0 h, lt-ltb 0 w known.positive);
      }
