-- Under the batch rule each card of the batch is below some card of the table, the winner that left the batch last. So during a wait the other cards
-- have two turns each but for one of them, which has one. Assumes nothing.
use Prim.Native.Nat.{ℕ, ◌+◌, ◌-◌, ◌*◌, ◌≤◌, ◌<◌}
use native.Mathlib.Nat.{add-mul}
use native.Mathlib.Omega.{arith}
use mathlib.Core.Bool.{Bool, true, false, true≢false, or-true}
use mathlib.Core.List.{List, [], ◌∷◌}
use mathlib.Core.Logic.{◌⊎◌, inl, inr, ◌≢◌}
use mathlib.Core.Path.{◌≡◌, refl, sym, ap, ◌∙◌, subst}
use lib.ListN.{get_or-eq_default}
use lib.Seq.{get_or-set_other}
use Rattle.arbiter.proofs.Open.{is_open, BatchRule, winner_shut, open_3_after, no_grant_open}
use Rattle.arbiter.proofs.Seen.{NoGrant, Seen, quiet, grant}
use Rattle.arbiter.proofs.Steps.{no_grant_quiet}
use Rattle.arbiter.proofs.Tests.{replicate_default}
use Rattle.arbiter.proofs.Winner.{Won}
use Rattle.arbiter.specs.Arbitrate.{preferred, some_preferred, competes, batch_now, granted}
use Rattle.arbiter.specs.State.{waits, in_batch, is_card, is_closed, fresh_of}
use Rattle.state.specs.declared.RackState.{RackState}
use Rattle.cards.proofs.Below.{le_or_lt, same_or_not}
use Rattle.cards.specs.Table.{has_card}
use Rattle.cards.specs.declared.Table.{Table}
use Rattle.rules.specs.Marks.{is_in}
use Rattle.rules.specs.Rules.{by_rule, goes_first}
use Rattle.promises.proofs.Batches.{above, batch_potential, shut_once, lower_once}
use Rattle.promises.proofs.Limits.{Limited}
use Rattle.promises.proofs.Share.{others, others_fewer}
use Rattle.promises.proofs.Turns.{seen_event, same_rule_after}
use Rattle.promises.specs.Runs.{Event, outcome_of, next, winner, after, grants, times, times_others, cards_of}

-- ---- the batch, through any events

-- no card is open, or each open card is below some card of the table
data Topped (s : RackState) : Type 0 where
  nobody : ((b : ℕ) → is_open s b ≡ false) → Topped s
  below : (top : ℕ) → top < 64 → is_card s top ≡ true → ((b : ℕ) → is_open s b ≡ true → b < top) → Topped s

topped_quiet : {s x : RackState} {n : ℕ} → NoGrant s x n → Topped s → Topped x
topped_quiet g (nobody none) = nobody (λ b. no_grant_open g b ∙ none b)
topped_quiet g (below top inside card under) =
    below top inside
    (ap (λ (t : Table). has_card t.slots top) (no_grant_quiet g).same_table ∙ card) (λ b o. under b (sym (no_grant_open g b) ∙ o))

module _ (s : RackState) (three : s.table.rule ≡ 3) (w : ℕ) (free : is_closed s.bus ≡ false) (won : Won s w) where
  in_batch_lem : (b : ℕ) → in_batch s b ≡ true → waits s b ≡ true
  in_batch_lem b e = go (le_or_lt 64 b)
    where
      go : (64 ≤ b) ⊎ (b < 64) → waits s b ≡ true
      go (inl l) = absurd (true≢false (sym e ∙ get_or-eq_default s.batch false (rw won.formed.batch_size l)))
      go (inr l) = ((won.formed.marks b l).batched e).0

  -- a card that is in the batch after the grant competed in it
  batch_competed : (b : ℕ) → w ≢ b → is_open (granted s w) b ≡ true → competes s b ≡ true
  unfolding batch_now competes goes_first by_rule
  batch_competed b d o =
      go (some_preferred s) refl (sym (get_or-set_other (batch_now s) w b false false (λ p. d (sym p))) ∙ sym (open_3_after s w free won three b) ∙ o)
    where
      go : (p : Bool) → some_preferred s ≡ p → is_in (batch_now s) b ≡ true → competes s b ≡ true
      go true p i =
          let batched : in_batch s b ≡ true = rw p at i in
          rw (in_batch_lem b batched, three, batched)
      go false p i =
          let t : waits s b ≡ true = rw (p, three) at i in
          rw (t, p) (or-true (preferred s b))

  topped_granted : Topped (granted s w)
  unfolding granted
  topped_granted = below w won.below won.card (λ b o. go b o (same_or_not w b))
    where
      go : (b : ℕ) → is_open (granted s w) b ≡ true → (w ≡ b) ⊎ (w ≢ b) → b < w
      go b o (inl p) = absurd (true≢false (sym o ∙ subst (λ (x : ℕ). is_open (granted s w) x ≡ false) p (winner_shut s w free won (inl three))))
      go b o (inr d) = above s w (inl three) won b d (batch_competed b d o)

topped_after : (es : List Event) (s : RackState) → s.table.rule ≡ 3 → Topped s → Topped (after s es)
unfolding after
topped_after [] s three h = h
topped_after (e ∷ es) s three h = topped_after es (next s e) (same_rule_after s e ∙ three) (go (seen_event s e))
  where
    go : Seen s (outcome_of s e) → Topped (next s e)
    go (quiet z g) = topped_quiet g h
    go (grant z free room st won) = rw st (topped_granted s three (winner s e) free won)

topped : (t : Table) → t.rule ≡ 3 → (before : List Event) → Topped (after (fresh_of t) before)
unfolding is_open by_rule
topped t three before = topped_after before (fresh_of t) three (nobody none)
  where
    none : (b : ℕ) → is_open (fresh_of t) b ≡ false
    none b = rw (three, replicate_default {A = Bool} 64 b false)

-- ---- the turns that are left

-- one turn each, or two each but for one card: neither is more than 2N - 3 beside the c grants of each
one_each : (o c N : ℕ) → o ≤ (c + 1) * (N - 1) → o ≤ c * (N - 1) + (2 * N - 3)
one_each o c N h = omega (arith, rw (add-mul c 1 (N - 1)) at h)

two_but_one : (o c N : ℕ) → o ≤ (c + 2) * (N - 1) - 1 → o ≤ c * (N - 1) + (2 * N - 3)
two_but_one o c N h = omega (arith, rw (add-mul c 2 (N - 1)) at h)

-- Where no card is open, or each is below the waiting card itself, each other card has at most one turn. Where each is below another card, that card
-- is not open, and has at most one.
pub batch_limited : Limited BatchRule 2 batch_potential 3 (inl refl) (λ cards. 2 * cards - 3)
batch_limited t three before during a c h turns = go (topped t three before)
  where
    s : RackState
    s = after (fresh_of t) before

    shut : (b : ℕ) (d : a ≢ b) → is_open s b ≡ false → times b (grants s during) ≤ c + 1
    shut b d e = omega (arith, turns b d, shut_once a b d s e)

    once : ((b : ℕ) → is_open s b ≡ true → b < a) → (b : ℕ) (d : a ≢ b) (o : Bool) → is_open s b ≡ o → times b (grants s during) ≤ c + 1
    once under b d true e = omega (arith, turns b d, lower_once a b d s (under b e))
    once under b d false e = shut b d e

    not_above : (top : ℕ) → ((b : ℕ) → is_open s b ≡ true → b < top) → (o : Bool) → is_open s top ≡ o → is_open s top ≡ false
    not_above top under true e = absurd (omega (arith, under top e))
    not_above top under false e = e

    go : Topped s → times_others a (grants s during) ≤ c * (cards_of s - 1) + (2 * cards_of s - 3)
    go (nobody none) = one_each _ c (cards_of s) (others a (c + 1) during s (λ b d. shut b d (none b)) h)
    go (below top inside card under) = by (same_or_not a top)
      where
        by : (a ≡ top) ⊎ (a ≢ top) → times_others a (grants s during) ≤ c * (cards_of s - 1) + (2 * cards_of s - 3)
        by (inl p) = one_each _ c (cards_of s) (others a (c + 1) during s (λ b d. once (λ x o. rw p (under x o)) b d (is_open s b) refl) h)
        by (inr q) =
            two_but_one _ c (cards_of s)
            (others_fewer a (c + 2) during s (λ b d. omega (arith, turns b d, (batch_potential a b d).limit s)) h top inside card q
            (omega (arith, shut top q (not_above top under (is_open s top) refl))))
