-- The look round finds the winner of an arbitration under round-robin, whatever the lines carry. Assumes nothing.
use Prim.Native.Nat.{ℕ, zero, suc, ◌+◌, ◌^◌, ◌≤◌, ◌<◌, max}
use native.Mathlib.Omega.{arith}
use mathlib.Core.Bool.{Bool, true, false, cond, not}
use mathlib.Core.Logic.{inl}
use mathlib.Core.Path.{◌≡◌, refl, sym, ap, ◌∙◌}
use lib.Dec.{ltb, eqb}
use borrow.Author.Tests.{ltb-true, ltb-false, lt-ltb, le-ltb, eqb-true, ne_eqb, eq-eqb}
use Rattle.arbiter.proofs.Formed.{Formed, formed_of, of_formed, some_wait, same_mark}
use Rattle.arbiter.proofs.Numbers.{number_1, competitor_waits}
use Rattle.arbiter.proofs.Winner.{Won, won, arbitrated_won, all_compete}
use Rattle.arbiter.specs.Arbitrate.{winner_of, some_loser_full, won_by, arbitrated, arbitrate_refusal, arbitrate_of}
use Rattle.arbiter.specs.Events.{answered_by}
use Rattle.arbiter.specs.Next.{next_refusal, told_by, next_by, next_of}
use Rattle.arbiter.specs.State.{waits, is_closed, lines_of, well_formed, with_value}
use Rattle.arbiter.specs.NextWinner.{NextWinner}
use Rattle.state.specs.declared.RackState.{RackState}
use Rattle.cards.specs.Below.{any_below}
use Rattle.rules.proofs.Looks.{look_none, look_finds}
use Rattle.rules.specs.Look.{look_down, look_round}

-- ---- the look

module _ (s : RackState) (w : ℕ) (robin : s.table.rule ≡ 1) (won : Won s w) where
  -- no waiting card has a greater number
  best : (a : ℕ) → waits s a ≡ true
      → a + cond (ltb a s.last) (2 ^ s.table.k) 0 ≤ w + cond (ltb w s.last) (2 ^ s.table.k) 0
  best a t = rw (number_1 s robin a, number_1 s robin w) at (won.best a (all_compete s (inl robin) a t))

  waits_so : waits s w ≡ true
  waits_so = competitor_waits s w won.competing

  nobody : (a : ℕ) → (waits s a ≡ true → ⊥) → waits s a ≡ false
  nobody a never = go (waits s a) refl
    where
      go : (b : Bool) → waits s a ≡ b → b ≡ false
      go true t = absurd (never t)
      go false t = refl

  pub round_finds : look_round (waits s) s.table.k s.last ≡ w
  unfolding look_round
  round_finds = go (ltb w s.last) refl
    where
      go : (b : Bool) → ltb w s.last ≡ b → look_round (waits s) s.table.k s.last ≡ w
      go true e =
          let below : w < s.last = ltb-true w s.last e in
          let found : look_down (waits s) 1 s.last ≡ w =
          look_finds (waits s) 1 s.last w won.positive below waits_so
          (λ a l h. nobody a (λ t. omega (arith, rw (lt-ltb a s.last h, e) at (best a t))))
          in
          rw (found, ne_eqb w 0 (λ z. omega (arith, won.positive)))
      go false e =
          let above : s.last ≤ w = ltb-false w s.last e in
          let first : look_down (waits s) 1 s.last ≡ 0 =
          look_none (waits s) 1 s.last
          (λ a l h. nobody a (λ t. omega (arith, won.small, rw (lt-ltb a s.last h, e) at (best a t))))
          in
          let second : look_down (waits s) (max 1 s.last) (2 ^ s.table.k) ≡ w =
          look_finds (waits s) (max 1 s.last) (2 ^ s.table.k) w (omega (arith, won.positive)) won.small waits_so
          (λ a l h. nobody a (λ t. omega (arith, rw (le-ltb a s.last (omega arith), e) at (best a t))))
          in
          rw (first, second)

-- ---- the answer

-- what a look that is not refused has met
pub record MayLook (s : RackState) : Type 0 where
  pub formed : well_formed s ≡ true
  pub robin : s.table.rule ≡ 1
  pub free : is_closed s.bus ≡ false
  pub some : eqb s.waiters 0 ≡ false

pub may_look : (s : RackState) → next_refusal (well_formed s) s ≡ 0 → MayLook s
unfolding next_refusal
may_look s = go (well_formed s) (eqb s.table.rule 1) (is_closed s.bus) (eqb s.waiters 0) refl refl refl refl
  where
    go : (f r c n : Bool) → well_formed s ≡ f → eqb s.table.rule 1 ≡ r → is_closed s.bus ≡ c → eqb s.waiters 0 ≡ n
        → ◌≡◌ {A = ℕ} (cond (not f) 17 (cond (not r) 32 (cond c 13 (cond n 14 0)))) 0 → MayLook s
    go false r c n p q u v none = absurd (omega arith)
    go true false c n p q u v none = absurd (omega arith)
    go true true true n p q u v none = absurd (omega arith)
    go true true false true p q u v none = absurd (omega arith)
    go true true false false p q u v none = record { formed = p; robin = eqb-true s.table.rule 1 q; free = u; some = v }

abbrev told : RackState → NextWinner
told s = record { answer = (arbitrate_of s).answer; winner = (arbitrate_of s).winner }

-- under round-robin no count is full, so that an arbitration that goes ahead is done
robin_done : (s : RackState) → s.table.rule ≡ 1 → well_formed s ≡ true → any_below 64 (waits s) ≡ true
    → ((arbitrated s).answer ≡ 0) × ((arbitrated s).winner ≡ winner_of s)
unfolding won_by some_loser_full
robin_done s robin ok some = rw (arbitrated_won s ok some, ne_eqb s.table.rule 2 (λ two. omega (arith, robin, two))) (refl, refl)

-- under round-robin the look answers what an arbitration of the state does, refused or done
pub next_wins : (s : RackState) → s.table.rule ≡ 1 → next_of s ≡ told s
unfolding next_by next_refusal answered_by arbitrate_refusal
next_wins s robin = go (well_formed s) (is_closed s.bus) (eqb s.waiters 0) refl refl refl
  where
    is_robin_lem : eqb s.table.rule 1 ≡ true
    is_robin_lem = eq-eqb s.table.rule 1 robin

    go : (formed closed none : Bool) → well_formed s ≡ formed → is_closed s.bus ≡ closed → eqb s.waiters 0 ≡ none → next_of s ≡ told s
    go false closed none ok shut idle = rw ok
    go true true none ok shut idle = rw (ok, is_robin_lem, shut)
    go true false true ok shut idle = rw (ok, is_robin_lem, shut, idle)
    go true false false ok shut idle =
        let some = some_wait s (formed_of s ok) idle in
        let done = robin_done s robin ok some in
        rw (
          ok,
          is_robin_lem,
          shut,
          idle,
          done.0,
          done.1,
          round_finds s (winner_of s) robin (won s ok some),
        )

-- and from lines that carry anything
pub next_from_any : (s : RackState) (start : ℕ) → start < 2 ^ lines_of s → (next_of s).answer ≡ 0
    → ((arbitrate_of (with_value s start)).answer ≡ 0) × ((arbitrate_of (with_value s start)).winner ≡ (next_of s).winner)
unfolding next_by next_refusal
next_from_any s start small done =
    let may = may_look s (asked (next_refusal (well_formed s) s) _ done) in
    let f : Formed s = formed_of s may.formed in
    let ok : well_formed (with_value s start) ≡ true = of_formed (with_value s start) (record {
      table_good_lem = f.table_good_lem;
      waiting_size = f.waiting_size;
      counts_size = f.counts_size;
      batch_size = f.batch_size;
      inhibited_size = f.inhibited_size;
      marks = λ n l. same_mark s (with_value s start) n refl refl refl refl refl (f.marks n l);
      last_known = f.last_known;
      bus_known = f.bus_known;
      value_small = small;
      waiters_counted = f.waiters_counted;
    })
    in
    let same : next_of (with_value s start) ≡ next_of s = rw (ok, may.formed) in
    let wins : told (with_value s start) ≡ next_of s = sym (next_wins (with_value s start) may.robin) ∙ same in
    (ap (λ (n : NextWinner). n.answer) wins ∙ done, ap (λ (n : NextWinner). n.winner) wins)
  where
    asked : (n w : ℕ) → (told_by n w).answer ≡ 0 → n ≡ 0
    asked zero w e = refl
    asked (suc n) w e = e
