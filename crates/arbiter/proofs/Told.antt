-- What an event tells. It is small: the answer is one of document 01's for an event, the winner a card's number, the settled lines are at most twelve, and
-- so the stages, and at most 64 numbers equal the lines. So two digits, two, four, two and two hold them. And a refused event tells its refusal alone. Assumes nothing.
use Prim.Native.Nat.{ℕ, ◌^◌, ◌≤◌, ◌<◌}
use native.Mathlib.Nat.{eq-or-lt_of_le}
use native.Mathlib.Omega.{arith}
use mathlib.Core.Bool.{Bool, true, false, cond, not, ◌||◌}
use mathlib.Core.Logic.{◌≢◌, ⊎_elim}
use mathlib.Core.Path.{◌≡◌, refl}
use lib.Dec.{eqb}
use lib.Pow.{pow-lt}
use Rattle.arbiter.proofs.Formed.{Formed, formed_of}
use Rattle.arbiter.proofs.Laws.{competing_short}
use Rattle.arbiter.proofs.Numbers.{wide, greatest_fits, settles}
use Rattle.arbiter.proofs.Seen.{Seen, quiet, grant, seen}
use Rattle.arbiter.specs.Arbitrate.{competing, settling_of, winner_of, some_loser_full, grant_to, won_by, has_winner, arbitrated, arbitrate_refusal, event_of}
use Rattle.arbiter.specs.Events.{answered, answered_by, request_refusal, request_of, release_refusal, release_of}
use Rattle.arbiter.specs.State.{waits, is_closed, is_holder, is_elected, lines_of, well_formed}
use Rattle.arbiter.specs.Outcome.{Outcome}
use Rattle.state.specs.declared.RackState.{RackState}
use Rattle.cards.specs.Table.{in_table}
use Rattle.lines.proofs.Matches.{equal_most}
use Rattle.lines.proofs.Stages.{stages_le, settled-greatest}
use Rattle.lines.specs.Greatest.{greatest}

-- ---- the winner

winner_of_lem : (s : RackState) (o : Outcome) → Seen s o → o.winner < 64
winner_of_lem s o (quiet none no_grant) = omega (arith, none)
winner_of_lem s o (grant done free room left known) = known.below

pub winner_below : (s : RackState) (letter a : ℕ) → (event_of s letter a).winner < 64
winner_below s letter a = winner_of_lem s (event_of s letter a) (seen s letter a)

-- ---- the others

pub record Small (o : Outcome) : Type 0 where
  pub answer : o.answer ≤ 18
  pub lines : o.lines < 4096
  pub stages : o.stages ≤ 12
  pub matches : o.matches ≤ 64

refused_small : (s : RackState) (n : ℕ) → n ≤ 18 → Small (answered s n)
refused_small s n l = record { answer = l; lines = omega arith; stages = omega arith; matches = omega arith }

either : (v : Bool) {x y : Outcome} → Small x → Small y → Small (cond v x y)
either true p q = p
either false p q = q

-- a chain of an event's first refusals
chain : (a b c : Bool) (x y : ℕ) → x ≤ 18 → y ≤ 18 → cond a 17 (cond b x (cond c y 0)) ≤ 18
chain true b c x y p q = omega arith
chain false true c x y p q = p
chain false false true x y p q = q
chain false false false x y p q = omega arith

module _ (s : RackState) where
  small_by : (n : ℕ) (done : Outcome) → n ≤ 18 → Small done → Small (answered_by n s done)
  unfolding answered_by
  small_by n done l h = either (eqb n 0) h (refused_small s n l)

  small_request : (a : ℕ) → Small (request_of s a)
  unfolding request_refusal
  small_request a =
      small_by (request_refusal (well_formed s) s a) _
      (chain (not (well_formed s)) (not (in_table s.table.slots a)) (waits s a || is_elected s.bus a) 11 12 (omega arith) (omega arith)) (refused_small _ 0 (omega arith))

  small_release : (a : ℕ) → Small (release_of s a)
  unfolding release_refusal
  small_release a =
      small_by (release_refusal (well_formed s) s a) _
      (chain (not (well_formed s)) (not (in_table s.table.slots a)) (not (is_holder s.bus a)) 11 15 (omega arith) (omega arith)) (refused_small _ 0 (omega arith))

  twelve_lines : (m x : ℕ) → m ≤ 12 → x < 2 ^ m → x < 4096
  twelve_lines m x l h = ⊎_elim (λ (e : m ≡ 12). rw e at h) (λ less. omega (arith, pow-lt less)) (eq-or-lt_of_le l)

  small_grant : Formed s → Small (grant_to s (winner_of s) (settling_of s))
  small_grant f =
      let m = lines_of s in
      let lines = wide s f in
      let fits = greatest_fits s m lines 64 in
      rw (settles s f, settled-greatest m (competing s) s.value fits f.value_small)
      (record {
        answer = omega arith;
        lines = twelve_lines m _ lines.range.1 fits;
        stages = omega (arith, stages_le m (competing s) s.value fits f.value_small, lines.range.1);
        matches = omega (arith, equal_most (greatest (competing s)) (competing s), competing_short s 64);
      })

  small_arbitration : (formed : Bool) → well_formed s ≡ formed → Small (answered_by (arbitrate_refusal formed s) s (arbitrated s))
  unfolding answered_by arbitrate_refusal arbitrated won_by
  small_arbitration false ill = refused_small s 17 (omega arith)
  small_arbitration true ok =
      small_by (arbitrate_refusal true s) (arbitrated s) (chain false (is_closed s.bus) (eqb s.waiters 0) 13 14 (omega arith) (omega arith))
      (either (has_winner (winner_of s) (settling_of s))
      (either (some_loser_full s (winner_of s)) (refused_small s 16 (omega arith)) (small_grant (formed_of s ok)))
      (refused_small s 17 (omega arith)))

pub small : (s : RackState) (letter a : ℕ) → Small (event_of s letter a)
unfolding event_of
small s letter a =
    either (eqb letter 81) (small_request s a)
    (either (eqb letter 65) (small_arbitration s (well_formed s) refl)
    (either (eqb letter 82) (small_release s a)
    (refused_small s 18 (omega arith))))

-- ---- a refused event returns the state given, with winner, lines, stages and figure 0

abbrev pub Kept : RackState → Outcome → Type 0
Kept s o = o.answer ≢ 0 → o ≡ answered s o.answer

kept_either : {s : RackState} (v : Bool) {x y : Outcome} → Kept s x → Kept s y → Kept s (cond v x y)
kept_either true f g = f
kept_either false f g = g

pub kept_by : (s : RackState) (n : ℕ) (o : Outcome) → Kept s o → Kept s (answered_by n s o)
unfolding answered_by
kept_by s n o k = kept_either (eqb n 0) k (λ _. refl)

pub arbitrated_kept : (s : RackState) → Kept s (arbitrated s)
unfolding arbitrated won_by
arbitrated_kept s =
    kept_either (has_winner (winner_of s) (settling_of s)) (kept_either (some_loser_full s (winner_of s)) (λ _. refl) (λ some. absurd (some refl))) (λ _. refl)

pub refused_keeps : (s : RackState) (letter a : ℕ) → Kept s (event_of s letter a)
unfolding event_of
refused_keeps s letter a =
    kept_either (eqb letter 81) (kept_by s _ _ (λ some. absurd (some refl)))
    (kept_either (eqb letter 65) (kept_by s _ _ (arbitrated_kept s))
    (kept_either (eqb letter 82) (kept_by s _ _ (λ some. absurd (some refl)))
    (λ _. refl)))
