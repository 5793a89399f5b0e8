-- The competing numbers of a well-formed state: what each rule makes of a card's number, that the rule's lines carry them all, and that their
-- settling is never refused. Assumes nothing.
use Prim.Native.Nat.{ℕ, zero, suc, ◌+◌, ◌*◌, ◌^◌, ◌%◌, ◌≤◌, ◌<◌, max}
use native.Mathlib.Nat.{add-zero, mod-eq_of_lt, add-mod_right, add-mul-mod_self_left, mul-le-mul_left}
use native.Mathlib.Omega.{arith}
use mathlib.Core.Bool.{Bool, true, false, cond}
use mathlib.Core.List.{List, [], ◌∷◌, ◌++◌}
use mathlib.Core.Logic.{◌⊎◌, inl, inr}
use mathlib.Core.Path.{◌≡◌, refl, ap, ◌∙◌}
use lib.Dec.{ltb}
use lib.Pow.{pow-add, pow_pos}
use Rattle.arbiter.proofs.Formed.{Formed, formed_width, formed_rule, waiting_below, waiting_card, card_small}
use Rattle.arbiter.proofs.Laws.{competing_short}
use Rattle.arbiter.proofs.Tests.{and_left}
use Rattle.arbiter.specs.Arbitrate.{number_of, competes, competing_below, competing, settling_of, value_now}
use Rattle.arbiter.specs.State.{waits, count_of, lines_of}
use Rattle.state.specs.declared.RackState.{RackState}
use Rattle.rules.specs.Rules.{by_rule, lines_by, number_by}
use Rattle.lines.proofs.Refusal.{not_refused}
use Rattle.lines.proofs.Stages.{settled-greatest}
use Rattle.lines.specs.Greatest.{greatest}
use Rattle.lines.specs.Settle.{refusal, done}
use Rattle.lines.specs.Settled.{Settled}

-- ---- who competes

pub competitor_waits : (s : RackState) (a : ℕ) → competes s a ≡ true → waits s a ≡ true
unfolding competes
competitor_waits s a t = and_left (waits s a) _ t

-- ---- the number as each rule has it: the card's own number and a multiple of 2 ^ k

-- the rules that add nothing to it
abbrev PlainRule : ℕ → Type 0
PlainRule r = (r ≡ 0) ⊎ ((r ≡ 3) ⊎ (r ≡ 4))

number_plain : (s : RackState) → PlainRule s.table.rule → (a : ℕ) → number_of s a ≡ a
unfolding number_of number_by by_rule
number_plain s (inl e) a = rw e
number_plain s (inr (inl e)) a = rw e
number_plain s (inr (inr e)) a = rw e

pub number_1 : (s : RackState) → s.table.rule ≡ 1 → (a : ℕ) → number_of s a ≡ a + cond (ltb a s.last) (2 ^ s.table.k) 0
unfolding number_of number_by by_rule
number_1 s e a = rw e (go (ltb a s.last))
  where
    go : (t : Bool) → cond t (a + 2 ^ s.table.k) a ≡ a + cond t (2 ^ s.table.k) 0
    go true = refl
    go false = omega arith

pub number_2 : (s : RackState) → s.table.rule ≡ 2 → (a : ℕ) → number_of s a ≡ a + 2 ^ s.table.k * count_of s a
unfolding number_of number_by by_rule
number_2 s e a = rw e

-- ---- the rule's lines carry them

-- m lines carry each competing number, and a number's card is its remainder
pub record Wide (s : RackState) (m : ℕ) : Type 0 where
  pub fits : (a : ℕ) → waits s a ≡ true → number_of s a < 2 ^ m
  pub own : (a : ℕ) → a < 2 ^ s.table.k → number_of s a % 2 ^ s.table.k ≡ a
  pub range : (0 < m) × (m ≤ 12)

module _ (s : RackState) (f : Formed s) where
  abbrev k : ℕ
  k = s.table.k

  waiting_small : (a : ℕ) → waits s a ≡ true → a < 2 ^ k
  waiting_small a t = card_small s f a (waiting_below s f a t) (waiting_card s f a t)

  wide_plain : PlainRule s.table.rule → Wide s k
  wide_plain e =
      record {
        fits = λ a t. rw (number_plain s e a) (waiting_small a t);
        own = λ a h. rw (number_plain s e a) (mod-eq_of_lt h);
        range = omega (arith, formed_width s f);
      }

  wide_1 : s.table.rule ≡ 1 → Wide s (k + 1)
  wide_1 e =
      record {
        fits = λ a t. rw (number_1 s e a, pow-add 2 k 1) (below (ltb a s.last) (waiting_small a t));
        own = λ a h. rw (number_1 s e a) (own (ltb a s.last) h);
        range = omega (arith, formed_width s f);
      }
    where
      below : {a : ℕ} (t : Bool) → a < 2 ^ k → a + cond t (2 ^ k) 0 < 2 ^ k * 2 ^ 1
      below true h = omega arith
      below false h = omega arith

      own : {a : ℕ} (t : Bool) → a < 2 ^ k → (a + cond t (2 ^ k) 0) % 2 ^ k ≡ a
      own {a} true h = add-mod_right a (2 ^ k) ∙ mod-eq_of_lt h
      own {a} false h = rw (add-zero a) (mod-eq_of_lt h)

  wide_2 : s.table.rule ≡ 2 → Wide s (k * 2)
  wide_2 e =
      record {
        fits = λ a t. rw (number_2 s e a, mul_two k, pow-add 2 k k)
            (omega (arith, waiting_small a t, mul-le-mul_left (2 ^ k) (f.marks a (waiting_below s f a t)).small));
        own = λ a h. rw (number_2 s e a) (add-mul-mod_self_left a (2 ^ k) (count_of s a) ∙ mod-eq_of_lt h);
        range = omega (arith, formed_width s f);
      }
    where
      mul_two : (n : ℕ) → n * 2 ≡ n + n
      mul_two n = omega arith

  pub wide : Wide s (lines_of s)
  unfolding lines_by by_rule
  wide = go s.table.rule refl
    where
      go : (r : ℕ) → s.table.rule ≡ r → Wide s (by_rule r k (k + 1) (k * 2) k k 0)
      go zero e = wide_plain (inl e)
      go (suc zero) e = wide_1 e
      go (suc (suc zero)) e = wide_2 e
      go (suc (suc (suc zero))) e = wide_plain (inr (inl e))
      go (suc (suc (suc (suc zero)))) e = wide_plain (inr (inr e))
      go (suc (suc (suc (suc (suc r))))) e = absurd (omega (arith, formed_rule s f))

-- ---- the greatest of them

greatest-append : (xs ys : List ℕ) → greatest (xs ++ ys) ≡ max (greatest xs) (greatest ys)
unfolding greatest
greatest-append [] ys = omega arith
greatest-append (x ∷ xs) ys = rw (greatest-append xs ys) (omega arith)

pub greatest_more : (s : RackState) (n : ℕ)
    → greatest (competing_below s (suc n)) ≡ max (greatest (competing_below s n)) (cond (competes s n) (number_of s n) 0)
unfolding competing_below greatest
greatest_more s n = rw (greatest-append (competing_below s n) (cond (competes s n) (number_of s n ∷ []) [])) (one (competes s n))
  where
    one : (b : Bool) → max (greatest (competing_below s n)) (greatest (cond b (number_of s n ∷ []) []))
        ≡ max (greatest (competing_below s n)) (cond b (number_of s n) 0)
    one true = omega arith
    one false = refl

pub greatest_fits : (s : RackState) (m : ℕ) → Wide s m → (n : ℕ) → greatest (competing_below s n) < 2 ^ m
unfolding competing_below greatest
greatest_fits s m w zero = pow_pos m
greatest_fits s m w (suc n) = rw (greatest_more s n) (go (competes s n) refl (greatest_fits s m w n))
  where
    go : (b : Bool) → competes s n ≡ b → greatest (competing_below s n) < 2 ^ m → max (greatest (competing_below s n)) (cond b (number_of s n) 0) < 2 ^ m
    go true t below = omega (arith, w.fits n (competitor_waits s n t))
    go false t below = omega arith

-- an arbitration's settling is never refused in a well-formed state
pub settles : (s : RackState) → Formed s → settling_of s ≡ done (lines_of s) (competing s) s.value
settles s f = rw accepted
  where
    accepted : refusal (lines_of s) (competing s) s.value 13 ≡ 0
    accepted =
        let w : Wide s (lines_of s) = wide s f in
        not_refused (lines_of s) (competing s) s.value 13 w.range.0 w.range.1
        (record { few = competing_short s 64; fits = greatest_fits s (lines_of s) w 64; small = f.value_small; enough = omega (arith, w.range) })

-- and comes to the greatest competing number, whatever the lines carried before
pub value_greatest : (s : RackState) → Formed s → value_now s ≡ greatest (competing s)
unfolding value_now
value_greatest s f =
    ap (λ (t : Settled). t.lines) (settles s f)
    ∙ settled-greatest (lines_of s) (competing s) s.value (greatest_fits s (lines_of s) (wide s f) 64) f.value_small
