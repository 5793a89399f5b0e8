-- What events and a look answered, known by their outcomes; no event changes the table; and a grant by its parts. Assumes nothing.
use Prim.Native.Nat.{ℕ, ◌-◌}
use mathlib.Core.Bool.{Bool, true, false, cond}
use mathlib.Core.List.{List}
use mathlib.Core.Path.{◌≡◌, refl, sym, ap, ◌∙◌}
use lib.Dec.{eqb}
use lib.ListN.{set}
use Rattle.std.proofs.Common.{Result, Ok, Err}
use Rattle.arbiter.specs.Arbitrate.{settling_of, winner_of, some_loser_full, granted, grant_to, won_by, has_winner, arbitrated}
use Rattle.arbiter.specs.Arbitrate.{batch_now, inhibited_now, value_now, winner_stopped, counts_after, won_bus, inhibited_by}
use Rattle.arbiter.specs.Events.{answered, answered_by}
use Rattle.arbiter.specs.NextWinner.{NextWinner, as_next_winner}
use Rattle.arbiter.specs.Outcome.{Outcome, as_outcome}
use Rattle.arbiter.specs.declared.Reported.{Reported}
use Rattle.cards.specs.declared.Table.{Table}
use Rattle.lines.specs.Settled.{Settled}
use Rattle.refusals.proofs.Laws.{one_answer}
use Rattle.refusals.specs.Numbers.{answer_of}
use Rattle.refusals.specs.declared.Refusal.{Refusal}
use Rattle.state.specs.declared.Bus.{Bus}
use Rattle.state.specs.declared.RackState.{RackState}

-- ---- one outcome is that of one state and one result

pub answered_as : (s : RackState) (r : Result Reported Refusal) → (as_outcome s r).answer ≡ answer_of r
answered_as s (Ok done) = refl
answered_as s (Err refusal) = refl

pub state_as : (s : RackState) (r : Result Reported Refusal) → (as_outcome s r).state ≡ s
state_as s (Ok done) = refl
state_as s (Err refusal) = refl

reported : Outcome → Reported
reported o = record { winner = o.winner; lines = o.lines; stages = o.stages; matches = o.matches }

pub record One (s s' : RackState) (r r' : Result Reported Refusal) : Type 0 where
  pub state : s ≡ s'
  pub result : r ≡ r'

pub one_outcome : {s s' : RackState} {r r' : Result Reported Refusal} {o : Outcome} → as_outcome s r ≡ o → as_outcome s' r' ≡ o → One s s' r r'
unfolding reported
one_outcome {s} {s'} {r} {r'} p q =
    record {
      state = sym (state_as s r) ∙ ap (λ (o : Outcome). o.state) same ∙ state_as s' r';
      result = one_answer r r' (sym (answered_as s r) ∙ ap (λ (o : Outcome). o.answer) same ∙ answered_as s' r')
          (λ x y e f. ap reported (rw (e, f) at same));
    }
  where
    same : as_outcome s r ≡ as_outcome s' r'
    same = p ∙ sym q

-- ---- and one answer to a look is that of one result

told_as : (r : Result ℕ Refusal) → (as_next_winner r).answer ≡ answer_of r
told_as (Ok card) = refl
told_as (Err refusal) = refl

pub one_next_winner : {r r' : Result ℕ Refusal} {n : NextWinner} → as_next_winner r ≡ n → as_next_winner r' ≡ n → r ≡ r'
one_next_winner {r} {r'} p q =
    one_answer r r' (sym (told_as r) ∙ ap (λ (n : NextWinner). n.answer) same ∙ told_as r')
    (λ x y e f. ap (λ (n : NextWinner). n.winner) (rw (e, f) at same))
  where
    same : as_next_winner r ≡ as_next_winner r'
    same = p ∙ sym q

-- ---- no event changes the table

either : (t : Table) (b : Bool) (x y : Outcome) → x.state.table ≡ t → y.state.table ≡ t → (cond b x y).state.table ≡ t
either t true x y p q = p
either t false x y p q = q

pub table_kept : (n : ℕ) (s : RackState) (done : Outcome) → done.state.table ≡ s.table → (answered_by n s done).state.table ≡ s.table
unfolding answered_by
table_kept n s done same = either s.table (eqb n 0) done (answered s n) same refl

pub arbitrated_table : (s : RackState) → (arbitrated s).state.table ≡ s.table
unfolding arbitrated won_by granted
arbitrated_table s =
    either s.table (has_winner (winner_of s) (settling_of s)) (won_by s (winner_of s) (settling_of s)) (answered s 17)
    (either s.table (some_loser_full s (winner_of s)) (answered s 16) (grant_to s (winner_of s) (settling_of s)) refl refl) refl

-- a grant, by what each part of the state is then
pub leaves_granted : (s : RackState) (w : ℕ) (t : Settled) (waiting : List Bool) (counts : List ℕ) (batch inhibited : List Bool) (bus : Bus) (waiters : ℕ)
    → some_loser_full s w ≡ false → waiting ≡ winner_stopped s w → counts ≡ counts_after s w → batch ≡ set (batch_now s) w false
    → inhibited ≡ inhibited_by s.table.rule (inhibited_now s) w → bus ≡ won_bus s.bus w → waiters ≡ s.waiters - 1 → t.lines ≡ value_now s
    → as_outcome
    (record {
      table = s.table;
      waiting = waiting;
      counts = counts;
      batch = batch;
      inhibited = inhibited;
      last = w;
      bus = bus;
      waiters = waiters;
      value = t.lines;
    })
    (Ok (record { winner = w; lines = t.lines; stages = t.stages; matches = t.matches })) ≡ won_by s w t
unfolding won_by granted
leaves_granted s w t waiting counts batch inhibited bus waiters room p q b i u n v = rw (room, p, q, b, i, u, n, v)
