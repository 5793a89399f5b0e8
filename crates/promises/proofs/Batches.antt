-- The potential of the batch and the inhibit rule, at most two: while a is not open, b has a turn if it is open, and one more, when both are open, if its
-- number is the greater. Assumes nothing.
use Prim.Native.Nat.{ℕ, ◌+◌, ◌≤◌, ◌<◌}
use native.Mathlib.Omega.{arith}
use mathlib.Core.Bool.{Bool, true, false, cond, not, ◌&&◌, true≢false, or-true}
use mathlib.Core.Logic.{inl, inr, ◌≢◌}
use mathlib.Core.Path.{◌≡◌, refl, sym, ◌∙◌}
use lib.Dec.{ltb}
use borrow.Author.Tests.{lt-ltb, le-ltb}
use Rattle.arbiter.proofs.Formed.{waiting_below}
use Rattle.arbiter.proofs.Numbers.{competitor_waits}
use Rattle.arbiter.proofs.Open.{is_open, BatchRule, open_preferred, Opened, kept, renewed, opened, winner_shut, no_grant_open}
use Rattle.arbiter.proofs.Seen.{NoGrant}
use Rattle.arbiter.proofs.Tests.{and_right, otherwise}
use Rattle.arbiter.proofs.Winner.{Won}
use Rattle.arbiter.specs.Arbitrate.{number_of, preferred, some_preferred, competes, granted}
use Rattle.arbiter.specs.State.{waits, is_closed}
use Rattle.state.specs.declared.RackState.{RackState}
use Rattle.rules.specs.Rules.{by_rule}
use Rattle.promises.proofs.Turns.{Potential}

-- ---- the winner is above the cards that compete with it

module _ (s : RackState) (w : ℕ) (r : BatchRule s.table.rule) (won : Won s w) where
  own_number : BatchRule s.table.rule → (a : ℕ) → number_of s a ≡ a
  unfolding number_of by_rule
  own_number (inl e) a = rw e
  own_number (inr e) a = rw e

  pub above : (a : ℕ) → w ≢ a → competes s a ≡ true → a < w
  above a d c = omega (arith, own_number r a, own_number r w, won.best a c, d)

  -- where the winner is open only if the waiting card a is, a competes too
  winner_above : is_closed s.bus ≡ false → (a : ℕ) → w ≢ a → waits s a ≡ true → (is_open s w ≡ true → is_open s a ≡ true) → a < w
  unfolding competes
  winner_above free a d t open-too = above a d (go (preferred s w) refl)
    where
      go : (p : Bool) → preferred s w ≡ p → competes s a ≡ true
      go true e = rw (t, sym (open_preferred s w free won r a) ∙ open-too (open_preferred s w free won r w ∙ e))
      go false e =
          rw (t, otherwise (preferred s w) (not (some_preferred s)) (and_right (waits s w) _ won.competing) e) (or-true (preferred s a))

-- ---- the potential

-- by whether a is open, whether b is, and whether b is above a
turns : Bool → Bool → Bool → ℕ
turns a-open b_open higher = cond a-open (cond (b_open && higher) 1 0) (cond b_open 1 0 + cond higher 1 0)

two_turns : (o p u : Bool) → turns o p u ≤ 2
unfolding turns
two_turns true true true = omega arith
two_turns true true false = omega arith
two_turns true false u = omega arith
two_turns false true true = omega arith
two_turns false true false = omega arith
two_turns false false true = omega arith
two_turns false false false = omega arith

-- a card that is not open has at most one, and so has a card below a
shut_turn : (o u : Bool) → turns o false u ≤ 1
unfolding turns
shut_turn true u = omega arith
shut_turn false true = omega arith
shut_turn false false = omega arith

lower_turn : (o p : Bool) → turns o p false ≤ 1
unfolding turns
lower_turn true true = omega arith
lower_turn true false = omega arith
lower_turn false true = omega arith
lower_turn false false = omega arith

waiter_shut : (p u : Bool) → turns false p u ≤ turns true p u + 1
unfolding turns
waiter_shut true true = omega arith
waiter_shut true false = omega arith
waiter_shut false true = omega arith
waiter_shut false false = omega arith

other_opens : (p q u : Bool) → turns false p u ≤ turns false q u + 1
unfolding turns
other_opens true q u = omega arith
other_opens false q u = omega arith

other_shut : (u : Bool) → turns false false u + 1 ≤ turns false true u
unfolding turns
other_shut u = omega arith

waiter_opens : (p q u : Bool) → turns true p u ≤ turns false q u
unfolding turns
waiter_opens true q true = omega arith
waiter_opens true q false = omega arith
waiter_opens false q u = omega arith

pub turns_left : ℕ → ℕ → RackState → ℕ
turns_left a b s = turns (is_open s a) (is_open s b) (ltb a b)

module _ (a b : ℕ) (a≢b : a ≢ b) where
  b≢a : b ≢ a
  b≢a p = a≢b (sym p)

  at_no_grant : {s x : RackState} {i : ℕ} → BatchRule s.table.rule → NoGrant s x i → turns_left a b x ≤ turns_left a b s
  unfolding turns_left
  at_no_grant r g = rw (no_grant_open g a, no_grant_open g b) (omega arith)

  module _ (s : RackState) (r : BatchRule s.table.rule) (free : is_closed s.bus ≡ false) where
    to_waiter : Won s a → turns_left a b (granted s a) ≤ turns_left a b s + 1
    unfolding turns_left
    to_waiter won = rw (winner_shut s a free won r) (go (opened s a free won r))
      where
        go : Opened s a → turns false (is_open (granted s a) b) (ltb a b) ≤ turns_left a b s + 1
        go (kept o same) = rw (same b a≢b, o) (waiter_shut (is_open s b) (ltb a b))
        go (renewed shut now) =
            rw (shut a won.below (competitor_waits s a won.competing)) (other_opens (is_open (granted s a) b) (is_open s b) (ltb a b))

    to_other : Won s b → waits s a ≡ true → turns_left a b (granted s b) + 1 ≤ turns_left a b s
    unfolding turns_left turns
    to_other won t = rw (winner_shut s b free won r) (go (opened s b free won r))
      where
        higher : (is_open s b ≡ true → is_open s a ≡ true) → ltb a b ≡ true
        higher h = lt-ltb a b (winner_above s b r won free a b≢a t h)

        in_turn : (o : Bool) → is_open s a ≡ o → turns o false (ltb a b) + 1 ≤ turns o true (ltb a b)
        in_turn true e = rw (higher (λ _. e)) (omega arith)
        in_turn false e = other_shut (ltb a b)

        go : Opened s b → turns (is_open (granted s b) a) false (ltb a b) + 1 ≤ turns_left a b s
        go (kept o same) = rw (same a b≢a, o) (in_turn (is_open s a) refl)
        go (renewed shut now) =
            let b_shut : is_open s b ≡ false = shut b won.below (competitor_waits s b won.competing) in
            rw (now a b≢a t, shut a (waiting_below s won.formed a t) t, b_shut, higher (λ o. absurd (true≢false (sym o ∙ b_shut)))) (omega arith)

    to_third : (w : ℕ) → Won s w → w ≢ a → w ≢ b → waits s a ≡ true → turns_left a b (granted s w) ≤ turns_left a b s
    unfolding turns_left
    to_third w won w≢a w≢b t = go (opened s w free won r)
      where
        go : Opened s w → turns_left a b (granted s w) ≤ turns_left a b s
        go (kept o same) = rw (same a w≢a, same b w≢b) (omega arith)
        go (renewed shut now) =
            rw (now a w≢a t, shut a (waiting_below s won.formed a t) t) (waiter_opens (is_open (granted s w) b) (is_open s b) (ltb a b))

  pub batch_potential : Potential BatchRule 2 a b
  unfolding turns_left
  batch_potential =
      record {
        left = turns_left a b;
        limit = λ s. two_turns (is_open s a) (is_open s b) (ltb a b);
        at_quiet = at_no_grant;
        to_waiter = λ s r free won. to_waiter s r free won;
        to_other = λ s r free won t. to_other s r free won t;
        to_third = λ s w r free won w≢a w≢b t. to_third s r free w won w≢a w≢b t;
      }

  pub shut_once : (s : RackState) → is_open s b ≡ false → batch_potential.left s ≤ 1
  unfolding batch_potential turns_left
  shut_once s e = rw e (shut_turn (is_open s a) (ltb a b))

  pub lower_once : (s : RackState) → b < a → batch_potential.left s ≤ 1
  unfolding batch_potential turns_left
  lower_once s l = rw (le-ltb a b (omega arith)) (lower_turn (is_open s a) (is_open s b))
