-- Demand 3 for the round-robin and the arrival rule, and what stands in its place for the batch and the inhibit rule, with their least bounds.
-- Each field is proved from what its law says, by arithmetic. Assumes nothing.
use Prim.Native.Nat.{ℕ, zero, suc, ◌+◌, ◌-◌, ◌*◌, ◌/◌, ◌≤◌, ◌<◌}
use native.Mathlib.Nat.{zero-div}
use native.Mathlib.Omega.{arith}
use mathlib.Core.List.{List, []}
use mathlib.Core.Logic.{◌⊎◌, inl, inr, ◌≢◌}
use mathlib.Core.Path.{◌≡◌, refl}
use lib.ListN.{length}
use Rattle.arbiter.proofs.Open.{BatchRule}
use Rattle.arbiter.proofs.Winner.{FairRule}
use Rattle.arbiter.specs.State.{fresh_of}
use Rattle.state.specs.declared.RackState.{RackState}
use Rattle.promises.proofs.Batches.{batch_potential, lower_once}
use Rattle.promises.proofs.Limits.{same_cards, rules_after, at_most, within, Limited, each_limited, others_within, share_but, share_of}
use Rattle.promises.proofs.Potentials.{fair_potential}
use Rattle.promises.proofs.Share.{no_grant_or_card}
use Rattle.promises.proofs.Topped.{batch_limited}
use Rattle.promises.proofs.Turns.{bounded_by}
use Rattle.promises.specs.Fairness.{OthersWithin, ShareOf, Fair, FairRules, FairByTwo, BatchRules, AtMostLower, FairWithin, BatchWithin, InhibitWithin}
use Rattle.promises.specs.Runs.{after, grants, times, cards_of}

-- ---- round-robin and arrival

-- one of each 1 * (N - 1) + 1 grants is one of each N: where there is a grant there is a card
fair_share : (rule : ℕ) → FairRule rule → ShareOf (λ cards. cards) rule
fair_share rule r t e before during card h = go (no_grant_or_card card during s h)
  where
    s : RackState
    s = after (fresh_of t) before

    l : List ℕ
    l = grants s during

    N : ℕ
    N = cards_of (fresh_of t)

    go : (l ≡ []) ⊎ (0 < cards_of s) → length l / N ≤ times card l
    go (inl none) = rw (none, zero-div N) (omega arith)
    go (inr some) =
        let parts : 1 * (N - 1) + 1 ≡ N = omega (arith, rw (same_cards t before) at some) in
        rw parts at (share_of FairRule 1 fair_potential rule r (λ cards. 1 * (cards - 1)) (each_limited FairRule 1 fair_potential rule r)
        (λ cards. omega arith) t e before during card h)

module _ (rule : ℕ) (r : FairRule rule) where
  others : OthersWithin (λ cards. 1 * (cards - 1)) rule
  others = others_within FairRule 1 fair_potential rule r (λ cards. 1 * (cards - 1)) (each_limited FairRule 1 fair_potential rule r)

  fair : Fair rule
  fair =
      record {
        at_most_once = λ t e before during waiter other d h. omega (arith, at_most FairRule 1 fair_potential rule r t e before during waiter other d h);
        at_most_others = λ t e before during waiter h. omega (arith, others t e before during waiter h);
        fair_share = λ t e before during card h. omega (arith, fair_share rule r t e before during card h);
        within_one = λ t e before during one two h₁ h₂. omega (arith, within FairRule 1 fair_potential rule r t e before during one two h₁ h₂);
      }

pub fair_rules : FairRules
fair_rules zero low high = absurd (omega arith)
fair_rules (suc zero) low high = fair 1 (inl refl)
fair_rules (suc (suc zero)) low high = fair 2 (inr refl)
fair_rules (suc (suc (suc rule))) low high = absurd (omega arith)

pub round_robin_fair : Fair 1
round_robin_fair = fair_rules 1 (omega arith) (omega arith)

pub arrival_fair : Fair 2
arrival_fair = fair_rules 2 (omega arith) (omega arith)

-- ---- batch and inhibit

module _ (rule : ℕ) (r : BatchRule rule) where
  twice_each : Limited BatchRule 2 batch_potential rule r (λ cards. 2 * (cards - 1))
  twice_each = each_limited BatchRule 2 batch_potential rule r

  others_twice : OthersWithin (λ cards. 2 * (cards - 1)) rule
  others_twice = others_within BatchRule 2 batch_potential rule r (λ cards. 2 * (cards - 1)) twice_each

  fair_by_two : FairByTwo rule
  fair_by_two =
      record {
        at_most_twice = λ t e before during waiter other d h. omega (arith, at_most BatchRule 2 batch_potential rule r t e before during waiter other d h);
        at_most_others = λ t e before during waiter h. omega (arith, others_twice t e before during waiter h);
        within_two = λ t e before during one two h₁ h₂. omega (arith, within BatchRule 2 batch_potential rule r t e before during one two h₁ h₂);
      }

  lower_at_most : AtMostLower 1 rule
  lower_at_most t e before during waiter lower l h =
      let s : RackState = after (fresh_of t) before in
      let d : waiter ≢ lower = λ p. omega arith in
      omega (
        arith,
        bounded_by waiter lower d (batch_potential waiter lower d) during s (rules_after BatchRule 2 batch_potential rule r t e before) h,
        lower_once waiter lower d s (omega arith),
      )

  -- where the others together are limited by `most`
  module _ (most : ℕ → ℕ) (limited : Limited BatchRule 2 batch_potential rule r most) (wide : (cards : ℕ) → cards ≤ most cards + 1) where
    fair_within : FairWithin most rule
    fair_within =
        record {
          lower_once = λ t e before during waiter lower l h. omega (arith, lower_at_most t e before during waiter lower l h);
          others_within = λ t e before during waiter h. omega (arith, others_within BatchRule 2 batch_potential rule r most limited t e before during waiter h);
          share_but = λ t e before during card h. omega (arith, share_but BatchRule 2 batch_potential rule r most limited t e before during card h);
          share_of = λ t e before during card h. omega (arith, share_of BatchRule 2 batch_potential rule r most limited wide t e before during card h);
        }

pub batch_rules : BatchRules
batch_rules zero low high = absurd (omega arith)
batch_rules (suc zero) low high = absurd (omega arith)
batch_rules (suc (suc zero)) low high = absurd (omega arith)
batch_rules (suc (suc (suc zero))) low high = fair_by_two 3 (inl refl)
batch_rules (suc (suc (suc (suc zero)))) low high = fair_by_two 4 (inr refl)
batch_rules (suc (suc (suc (suc (suc rule))))) low high = absurd (omega arith)

pub batch_fair_by_two : FairByTwo 3
batch_fair_by_two = batch_rules 3 (omega arith) (omega arith)

pub inhibit_fair_by_two : FairByTwo 4
inhibit_fair_by_two = batch_rules 4 (omega arith) (omega arith)

pub batch_within : BatchWithin
batch_within =
    fair_within 3 (inl refl) _ (λ t e before during a c h turns. omega (arith, batch_limited t e before during a c h turns)) (λ cards. omega arith)

pub inhibit_within : InhibitWithin
inhibit_within =
    fair_within 4 (inr refl) _ (λ t e before during a c h turns. omega (arith, twice_each 4 (inr refl) t e before during a c h turns))
    (λ cards. omega arith)
