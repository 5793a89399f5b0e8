-- An event answers with none of the tally's numbers, so that 41 is the tally's alone; and a refused event keeps the tally and the square. Assumes nothing.
use Prim.Native.Nat.{ℕ, ◌≤◌}
use native.Mathlib.Omega.{arith}
use mathlib.Core.Bool.{Bool, true, false, cond, not, ◌||◌}
use mathlib.Core.Logic.{◌≢◌}
use mathlib.Core.Path.{◌≡◌, refl, sym, ◌∙◌}
use lib.Dec.{eqb, leb}
use borrow.Author.Tests.{eqb-true, ne_eqb}
use Rattle.arbiter.proofs.Told.{small}
use Rattle.arbiter.specs.Arbitrate.{event_of}
use Rattle.arbiter.specs.Events.{answered}
use Rattle.arbiter.specs.Outcome.{Outcome}
use Rattle.state.specs.declared.RackState.{RackState}
use Rattle.tally.proofs.Laws.{counts}
use Rattle.tally.specs.Tally.{Square, tally_good, counted_answer, counted_by, counted_of, square_after}
use Rattle.tally.specs.declared.Tally.{Tally}

no_41_in : (a b g : Bool) (n : ℕ) → g ≡ true → n ≤ 18 → cond a n (cond b 31 (cond (not g) 41 n)) ≢ 41
no_41_in true b g n e l = λ h. omega (arith, l, h)
no_41_in false true g n e l = λ h. omega (arith, h)
no_41_in false false g n e l = rw e (λ h. omega (arith, l, h))

module _ (t : Tally) (q : Square) (s : RackState) (letter a : ℕ) where
  abbrev o : Outcome
  o = event_of s letter a

  abbrev n : ℕ
  n = counted_answer t q o.answer

  -- the answer is the one worked out, done or refused
  answer_is : (counted_of t q s letter a).outcome.answer ≡ n
  unfolding counted_of counted_by
  answer_is = by_case (eqb n 0) refl
    where
      by_case : (v : Bool) → eqb n 0 ≡ v → (counted_by n t s letter a o).outcome.answer ≡ n
      by_case true e = rw e ((counts t q o.answer (eqb-true n 0 e)).done ∙ sym (eqb-true n 0 e))
      by_case false e = rw e

  pub good_no_41 : tally_good t q ≡ true → (counted_of t q s letter a).outcome.answer ≢ 41
  unfolding counted_answer
  good_no_41 good h =
      no_41_in (eqb o.answer 17 || eqb o.answer 18) (leb 65535 t.events) (tally_good t q) o.answer good (small s letter a).answer (sym answer_is ∙ h)

  -- a refusal changes nothing
  pub refused_counts : (counted_of t q s letter a).outcome.answer ≢ 0
      → (counted_of t q s letter a ≡ record { tally = t; outcome = answered s n }) × (square_after q (counted_of t q s letter a).outcome ≡ q)
  unfolding counted_of counted_by square_after
  refused_counts refused =
      let other : eqb n 0 ≡ false = ne_eqb n 0 (λ z. refused (answer_is ∙ z)) in
      rw other (refl, rw other)
