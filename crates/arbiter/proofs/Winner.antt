-- The winner of a well-formed state in which a card waits: it competes, is a card of the table, and no competing card has a greater number.
-- Assumes nothing.
use Prim.Native.Nat.{ℕ, zero, suc, ◌^◌, ◌≤◌, ◌<◌}
use native.Mathlib.Nat.{not-suc-le-zero, le_of_suc-le-suc, eq-or-lt_of_le}
use native.Mathlib.Omega.{arith}
use mathlib.Core.Bool.{Bool, true, false, not, ◌&&◌, ◌||◌}
use mathlib.Core.Logic.{◌⊎◌, inl, inr}
use mathlib.Core.Path.{◌≡◌, refl, ap, ◌∙◌}
use borrow.Author.Tests.{ne_eqb}
use Rattle.arbiter.proofs.Formed.{Formed, formed_of, waiting_below, waiting_card, card_positive, card_small}
use Rattle.arbiter.proofs.Numbers.{competitor_waits, wide, greatest_more, greatest_fits, settles, value_greatest}
use Rattle.arbiter.specs.Arbitrate.{number_of, preferred, waits_preferred, some_preferred, competes}
use Rattle.arbiter.specs.Arbitrate.{competing_below, competing, settling_of, value_now, winner_of, won_by, arbitrated}
use Rattle.arbiter.specs.State.{waits, is_card, lines_of, well_formed}
use Rattle.state.specs.declared.RackState.{RackState}
use Rattle.cards.proofs.Below.{le_or_lt, any_not_none, none_any}
use Rattle.cards.specs.Below.{any_below}
use Rattle.rules.specs.Rules.{by_rule, goes_first}
use Rattle.lines.proofs.Stages.{settled-greatest}
use Rattle.lines.specs.Greatest.{greatest}
use Rattle.lines.specs.Settled.{Settled}

-- the rules under which each other card is granted at most once during a wait
abbrev pub FairRule : ℕ → Type 0
FairRule r = (r ≡ 1) ⊎ (r ≡ 2)

-- ---- who competes

-- where somebody waits, somebody competes
some_compete : (s : RackState) → any_below 64 (waits s) ≡ true → ((a : ℕ) → a < 64 → competes s a ≡ false) → ⊥
unfolding competes some_preferred
some_compete s some none = any_not_none 64 (waits s) some (λ a h. nobody_waits (waits s a) (preferred s a) (rw none_first at (none a h)))
  where
    not_first : (w p t : Bool) → (w && (p || not t)) ≡ false → (w && p) ≡ false
    not_first true true t e = e
    not_first true false t e = refl
    not_first false p t e = refl

    none_first : some_preferred s ≡ false
    none_first = none_any 64 (waits_preferred s) (λ a h. not_first (waits s a) (preferred s a) (some_preferred s) (none a h))

    nobody_waits : (w p : Bool) → (w && (p || true)) ≡ false → w ≡ false
    nobody_waits true true e = e
    nobody_waits true false e = e
    nobody_waits false p e = refl

-- under the fair rules each waiting card competes
pub all_compete : (s : RackState) → FairRule s.table.rule → (a : ℕ) → waits s a ≡ true → competes s a ≡ true
unfolding competes goes_first by_rule
all_compete s (inl e) a t = rw (t, e)
all_compete s (inr e) a t = rw (t, e)

-- ---- the greatest competing number

-- either nobody below m competes, or a competing card has the greatest competing number
data Top (s : RackState) (m : ℕ) : Type 0 where
  nobody : ((n : ℕ) → n < m → competes s n ≡ false) → greatest (competing_below s m) ≡ 0 → Top s m
  somebody : (w : ℕ) → w < m → competes s w ≡ true → greatest (competing_below s m) ≡ number_of s w → Top s m

reach : (s : RackState) (m a : ℕ) → a < m → competes s a ≡ true → number_of s a ≤ greatest (competing_below s m)
reach s zero a h t = absurd (not-suc-le-zero h)
reach s (suc m) a h t = go (eq-or-lt_of_le (le_of_suc-le-suc h)) (reach s m a)
  where
    go : (a ≡ m) ⊎ (a < m) → (a < m → competes s a ≡ true → number_of s a ≤ greatest (competing_below s m))
        → number_of s a ≤ greatest (competing_below s (suc m))
    go (inl p) ih = rw (greatest_more s m, ← p, t) (omega arith)
    go (inr l) ih = rw (greatest_more s m) (omega (arith, ih l t))

top : (s : RackState) (m : ℕ) → Top s m
unfolding competing_below greatest
top s zero = nobody (λ n h. absurd (not-suc-le-zero h)) refl
top s (suc m) = go (competes s m) refl (top s m)
  where
    last_too : competes s m ≡ false → ((n : ℕ) → n < m → competes s n ≡ false) → (n : ℕ) → (n ≡ m) ⊎ (n < m) → competes s n ≡ false
    last_too f none n (inl p) = rw p f
    last_too f none n (inr l) = none n l

    above : (w : ℕ) → w < m → competes s m ≡ true → greatest (competing_below s m) ≡ number_of s w → competes s w ≡ true
        → (number_of s w ≤ number_of s m) ⊎ (number_of s m < number_of s w) → Top s (suc m)
    above w l e p t (inl q) = somebody m (omega arith) e (greatest_more s m ∙ rw (e, p) (omega arith))
    above w l e p t (inr q) = somebody w (omega arith) t (greatest_more s m ∙ rw (e, p) (omega arith))

    go : (t : Bool) → competes s m ≡ t → Top s m → Top s (suc m)
    go true e (nobody none z) = somebody m (omega arith) e (greatest_more s m ∙ rw (e, z) (omega arith))
    go true e (somebody w l t p) = above w l e p t (le_or_lt (number_of s w) (number_of s m))
    go false e (nobody none z) =
        nobody (λ n h. last_too e none n (eq-or-lt_of_le (le_of_suc-le-suc h))) (greatest_more s m ∙ rw (e, z) (omega arith))
    go false e (somebody w l t p) = somebody w (omega arith) t (greatest_more s m ∙ rw (e, p) (omega arith))

-- ---- the winner

pub record Won (s : RackState) (w : ℕ) : Type 0 where
  pub formed : Formed s
  pub competing : competes s w ≡ true
  pub below : w < 64
  pub card : is_card s w ≡ true
  pub small : w < 2 ^ s.table.k
  pub positive : 0 < w
  pub best : (a : ℕ) → competes s a ≡ true → number_of s a ≤ number_of s w
  pub shown : value_now s ≡ number_of s w

pub won : (s : RackState) → well_formed s ≡ true → any_below 64 (waits s) ≡ true → Won s (winner_of s)
won s ok some = go (formed_of s ok) (top s 64)
  where
    go : Formed s → Top s 64 → Won s (winner_of s)
    go f (nobody none z) = absurd (some_compete s some none)
    go f (somebody w l t p) =
        let card : is_card s w ≡ true = waiting_card s f w (competitor_waits s w t) in
        let small : w < 2 ^ s.table.k = card_small s f w l card in
        let same : winner_of s ≡ w =
        rw (settles s f, settled-greatest (lines_of s) (competing s) s.value (greatest_fits s (lines_of s) (wide s f) 64) f.value_small, p)
        ((wide s f).own w small)
        in
        rw same (record {
          formed = f;
          competing = t;
          below = l;
          card = card;
          small = small;
          positive = card_positive s f w l card;
          best = λ a q. rw (← p) (reach s 64 a (waiting_below s f a (competitor_waits s a q)) q);
          shown = value_greatest s f ∙ p;
        })

-- so that its settling has a winner
pub arbitrated_won : (s : RackState) → well_formed s ≡ true → any_below 64 (waits s) ≡ true → arbitrated s ≡ won_by s (winner_of s) (settling_of s)
unfolding arbitrated
arbitrated_won s ok some =
    let done : (settling_of s).answer ≡ 0 = ap (λ (t : Settled). t.answer) (settles s (formed_of s ok)) in
    rw (done, ne_eqb (winner_of s) 0 (λ none. omega (arith, none, (won s ok some).positive)))
