-- Every event keeps a state well formed. Assumes nothing.
use Prim.Native.Nat.{ℕ, ◌+◌, ◌-◌, ◌^◌, ◌<◌}
use native.Mathlib.Omega.{arith}
use mathlib.Core.Bool.{Bool, true, false, cond, not, ◌&&◌, true≢false, false≢true}
use mathlib.Core.List.{List}
use mathlib.Core.Logic.{◌⊎◌, inl, inr, ◌≢◌}
use mathlib.Core.Path.{◌≡◌, refl, sym, ap, ◌∙◌}
use lib.Dec.{ltb, eqb}
use lib.ListN.{length, set, replicate, length-set}
use lib.Pow.{pow_pos}
use lib.Seq.{get_or-set_same, get_or-set_other}
use borrow.Author.Tests.{lt-ltb, eq-eqb, eqb-true}
use Rattle.arbiter.proofs.Formed.{Mark, Formed, formed_of, of_formed, same_mark}
use Rattle.arbiter.proofs.Laws.{winner_count, loser_count, other_count, counts_length, not_full}
use Rattle.arbiter.proofs.Numbers.{competitor_waits, wide, greatest_fits, value_greatest}
use Rattle.arbiter.proofs.Open.{inhibited_now_size}
use Rattle.arbiter.proofs.Seen.{NoGrant, refused, full, asked, handed, Seen, seen, quiet, grant}
use Rattle.arbiter.proofs.Tests.{and_right, both, or_so, set_default, replicate_default}
use Rattle.arbiter.proofs.Winner.{Won}
use Rattle.arbiter.specs.Arbitrate.{some_preferred, batch_now, inhibited_now, value_now, some_loser_full, won_bus, inhibited_by, granted, event_of}
use Rattle.arbiter.specs.Events.{requested, handed_on, released}
use Rattle.arbiter.specs.State.{waits, count_of, in_batch, is_card, is_closed, holder_ok, lines_of, recount, well_formed}
use Rattle.state.specs.declared.Bus.{Bus}
use Rattle.state.specs.declared.Bus.TheVariants.{Free, Held, Elected}
use Rattle.state.specs.declared.RackState.{RackState}
use Rattle.cards.proofs.Below.{same_or_not}
use Rattle.cards.proofs.Counted.{count_most, count_one_more}
use Rattle.cards.proofs.TableKnown.{table_card, table_range}
use Rattle.cards.specs.Table.{in_table}
use Rattle.rules.specs.Counts.{one_waits}
use Rattle.rules.specs.Marks.{is_in}

-- a request by a card c that did not wait
requested_formed : (s : RackState) (c : ℕ) → in_table s.table.slots c ≡ true → waits s c ≡ false → Formed s → Formed (requested s c)
requested_formed s c t new f =
    record {
      table_good_lem = f.table_good_lem;
      waiting_size = length-set s.waiting c true ∙ f.waiting_size;
      counts_size = length-set s.counts c 0 ∙ f.counts_size;
      batch_size = f.batch_size;
      inhibited_size = f.inhibited_size;
      marks = λ n l. go n (f.marks n l) (same_or_not n c);
      last_known = f.last_known;
      bus_known = f.bus_known;
      value_small = f.value_small;
      waiters_counted = one_more_lem;
    }
  where
    one_more_lem : one_waits s.waiters ≡ recount (set s.waiting c true)
    one_more_lem =
        let more : recount (set s.waiting c true) ≡ s.waiters + 1 =
        count_one_more (waits s) (is_in (set s.waiting c true)) c (λ n d. get_or-set_other s.waiting c n true false d) new
        (get_or-set_same s.waiting c true false (omega (arith, inside, f.waiting_size))) 64 inside ∙ rw f.waiters_counted
        in
        let below : s.waiters < 64 = omega (arith, more, count_most 64 (is_in (set s.waiting c true))) in
        rw (lt-ltb s.waiters 64 below) (sym more)
      where
        inside : c < 64
        inside = table_range s.table.slots c t

    go : (n : ℕ) → Mark s n → (n ≡ c) ⊎ (n ≢ c) → Mark (requested s c) n
    go n mark (inl p) =
        record {
          in_table_lem = λ _. rw p (table_card s.table.slots c t);
          small = rw (p, set_default s.counts c 0) (pow_pos s.table.k);
          counted = λ h. absurd (h (rw (p, set_default s.counts c 0)));
          batched = λ b. absurd (true≢false (sym (mark.batched b).0 ∙ ap (waits s) p ∙ new));
          barred = mark.barred;
        }
    go n mark (inr q) =
        same_mark s (requested s c) n refl (get_or-set_other s.waiting c n true false q) (get_or-set_other s.counts c n 0 0 q) refl refl mark

-- the bus goes on to the elected card, which is the last winner, or to nobody
handed_ok : (slots : List ℕ) (last : ℕ) (bus : Bus) → holder_ok slots last bus ≡ true → holder_ok slots last (handed_on bus) ≡ true
handed_ok slots last Free ok = refl
handed_ok slots last (Held h) ok = refl
handed_ok slots last (Elected h e) ok = and_right (in_table slots h) _ ok

released_formed : (s : RackState) (c : ℕ) → Formed s → Formed (released s c)
released_formed s c f =
    record {
      table_good_lem = f.table_good_lem;
      waiting_size = f.waiting_size;
      counts_size = f.counts_size;
      batch_size = f.batch_size;
      inhibited_size = f.inhibited_size;
      marks = λ n l. same_mark s (released s c) n refl refl refl refl refl (f.marks n l);
      last_known = f.last_known;
      bus_known = handed_ok s.table.slots s.last s.bus f.bus_known;
      value_small = f.value_small;
      waiters_counted = f.waiters_counted;
    }

-- the sets as an arbitration takes them, of 64 places each, and whom they hold
module _ (s : RackState) (f : Formed s) where
  batch_now_size : length (batch_now s) ≡ 64
  unfolding batch_now
  batch_now_size = go (not (some_preferred s) && eqb s.table.rule 3)
    where
      go : (u : Bool) → length (cond u s.waiting s.batch) ≡ 64
      go true = f.waiting_size
      go false = f.batch_size

  batch_now_lem : (n : ℕ) → n < 64 → is_in (batch_now s) n ≡ true → (waits s n ≡ true) × (s.table.rule ≡ 3)
  unfolding batch_now
  batch_now_lem n l = go (not (some_preferred s) && eqb s.table.rule 3) refl
    where
      go : (u : Bool) → (not (some_preferred s) && eqb s.table.rule 3) ≡ u → is_in (cond u s.waiting s.batch) n ≡ true
          → (waits s n ≡ true) × (s.table.rule ≡ 3)
      go true e t = (t, eqb-true s.table.rule 3 (and_right (not (some_preferred s)) _ e))
      go false e t = (f.marks n l).batched t

  inhibited_now_lem : (n : ℕ) → n < 64 → is_in (inhibited_now s) n ≡ true → (is_card s n ≡ true) × (s.table.rule ≡ 4)
  unfolding inhibited_now
  inhibited_now_lem n l = go (not (some_preferred s) && eqb s.table.rule 4)
    where
      go : (u : Bool) → is_in (cond u (replicate 64 false) s.inhibited) n ≡ true → (is_card s n ≡ true) × (s.table.rule ≡ 4)
      go true t = absurd (false≢true (sym (replicate_default {A = Bool} 64 n false) ∙ t))
      go false t = (f.marks n l).barred t

  -- the lines carry what they settle to
  value_now_lem : value_now s < 2 ^ lines_of s
  value_now_lem = rw (value_greatest s f) (greatest_fits s (lines_of s) (wide s f) 64)

-- the winner holds a free bus, or is elected beside a holder that is a card of the table
won_ok : (slots : List ℕ) (last w : ℕ) (bus : Bus) → is_closed bus ≡ false → holder_ok slots last bus ≡ true → in_table slots w ≡ true
    → holder_ok slots w (won_bus bus w) ≡ true
won_ok slots last w Free free ok known = both (eqb w w) (in_table slots w) (eq-eqb w w refl) known
won_ok slots last w (Held h) free ok known =
    both (in_table slots h) _ (and_right (eqb h last) _ ok) (both (eqb w w) (in_table slots w) (eq-eqb w w refl) known)
won_ok slots last w (Elected h e) free ok known = absurd (true≢false free)

-- a grant to w
module _ (s : RackState) (w : ℕ) (free : is_closed s.bus ≡ false) (room : some_loser_full s w ≡ false) (won : Won s w) where
  winner-known : in_table s.table.slots w ≡ true
  unfolding in_table
  winner-known = both (ltb w 64) (is_card s w) (lt-ltb w 64 won.below) won.card

  -- a loser's count
  data Grown (n : ℕ) : Type 0 where
    same : count_of (granted s w) n ≡ count_of s n → Grown n
    more : waits s n ≡ true → s.table.rule ≡ 2 → count_of s n + 1 < 2 ^ s.table.k → count_of (granted s w) n ≡ count_of s n + 1 → Grown n

  grown : (n : ℕ) → n < 64 → n ≢ w → Grown n
  grown n l d = go (waits s n) (same_or_not s.table.rule 2) refl
    where
      go : (t : Bool) → (s.table.rule ≡ 2) ⊎ (s.table.rule ≢ 2) → waits s n ≡ t → Grown n
      go true (inl e) t = more t e (omega (arith, not_full s w n room l d e t)) (rw t at (loser_count s w n l d e))
      go false (inl e) t = same (omega (arith, rw t at (loser_count s w n l d e)))
      go _ (inr m) t = same (other_count s w n d m)

  -- the inhibited cards, the winner among them under rule 4
  barred_after : (n : ℕ) → n < 64 → is_in (inhibited_by s.table.rule (inhibited_now s) w) n ≡ true → (is_card s n ≡ true) × (s.table.rule ≡ 4)
  barred_after n l = go (eqb s.table.rule 4) refl (same_or_not n w)
    where
      go : (u : Bool) → eqb s.table.rule 4 ≡ u → (n ≡ w) ⊎ (n ≢ w) → is_in (cond u (set (inhibited_now s) w true) (inhibited_now s)) n ≡ true
          → (is_card s n ≡ true) × (s.table.rule ≡ 4)
      go true e (inl p) t = (rw p won.card, eqb-true s.table.rule 4 e)
      go true e (inr d) t = inhibited_now_lem s won.formed n l (sym (get_or-set_other (inhibited_now s) w n true false d) ∙ t)
      go false e _ t = inhibited_now_lem s won.formed n l t

  inhibited_after_size : length (inhibited_by s.table.rule (inhibited_now s) w) ≡ 64
  inhibited_after_size = go (eqb s.table.rule 4)
    where
      go : (u : Bool) → length (cond u (set (inhibited_now s) w true) (inhibited_now s)) ≡ 64
      go true = length-set (inhibited_now s) w true ∙ inhibited_now_size s won.formed
      go false = inhibited_now_size s won.formed

  mark_after : (n : ℕ) → n < 64 → Mark (granted s w) n
  unfolding granted
  mark_after n l = go (won.formed.marks n l) (same_or_not n w)
    where
      batched_after : n ≢ w → waits (granted s w) n ≡ waits s n → in_batch (granted s w) n ≡ true
          → (waits (granted s w) n ≡ true) × (s.table.rule ≡ 3)
      batched_after d p t =
          let old = batch_now_lem s won.formed n l (sym (get_or-set_other (batch_now s) w n false false d) ∙ t) in
          (p ∙ old.0, old.1)

      loser : Mark s n → n ≢ w → waits (granted s w) n ≡ waits s n → Grown n → Mark (granted s w) n
      loser mark d p (same q) =
          record {
            in_table_lem = λ t. mark.in_table_lem (sym p ∙ t);
            small = rw q mark.small;
            counted = λ h. (p ∙ (mark.counted (λ z. h (q ∙ z))).0, (mark.counted (λ z. h (q ∙ z))).1);
            batched = batched_after d p;
            barred = barred_after n l;
          }
      loser mark d p (more t e small q) =
          record {
            in_table_lem = λ t. mark.in_table_lem (sym p ∙ t);
            small = rw q small;
            counted = λ h. (p ∙ t, e);
            batched = batched_after d p;
            barred = barred_after n l;
          }

      go : Mark s n → (n ≡ w) ⊎ (n ≢ w) → Mark (granted s w) n
      go mark (inr d) = loser mark d (get_or-set_other s.waiting w n false false d) (grown n l d)
      go mark (inl p) =
          record {
            in_table_lem = λ t. rw p won.card;
            small = rw zero_count (pow_pos s.table.k);
            counted = λ h. absurd (h zero_count);
            batched = λ t. absurd (false≢true (sym (rw p (set_default (batch_now s) w false)) ∙ t));
            barred = barred_after n l;
          }
        where
          zero_count : count_of (granted s w) n ≡ 0
          zero_count = rw p (winner_count s w won.below)

  one_less : s.waiters - 1 ≡ recount (set s.waiting w false)
  one_less =
      let more : recount s.waiting ≡ recount (set s.waiting w false) + 1 =
      count_one_more (is_in (set s.waiting w false)) (waits s) w (λ n d. sym (get_or-set_other s.waiting w n false false d))
      (set_default s.waiting w false) (competitor_waits s w won.competing) 64 won.below
      in
      omega (arith, more, won.formed.waiters_counted)

  granted_formed : Formed (granted s w)
  unfolding granted
  granted_formed =
      record {
        table_good_lem = won.formed.table_good_lem;
        waiting_size = length-set s.waiting w false ∙ won.formed.waiting_size;
        counts_size = counts_length s w won.formed.counts_size;
        batch_size = length-set (batch_now s) w false ∙ batch_now_size s won.formed;
        inhibited_size = inhibited_after_size;
        marks = mark_after;
        last_known = or_so (eqb w 0) (in_table s.table.slots w) (λ _. winner-known);
        bus_known = won_ok s.table.slots s.last w s.bus free won.formed.bus_known winner-known;
        value_small = value_now_lem s won.formed;
        waiters_counted = one_less;
      }

formed_next : (s : RackState) (letter number : ℕ) → Formed s → Formed (event_of s letter number).state
formed_next s letter number f = go (seen s letter number)
  where
    still : {x : RackState} {n : ℕ} → NoGrant s x n → Formed x
    still (refused i j) = f
    still (full w ok h) = f
    still (asked c ok t w v) = requested_formed s c t w f
    still (handed c ok t h) = released_formed s c f

    go : Seen s (event_of s letter number) → Formed (event_of s letter number).state
    go (quiet z g) = still g
    go (grant z free room st won) = rw st (granted_formed s (event_of s letter number).winner free room won)

-- every event keeps a well-formed state well formed
pub stays_well_formed : (s : RackState) (letter number : ℕ) → well_formed s ≡ true → well_formed (event_of s letter number).state ≡ true
stays_well_formed s letter number ok = of_formed (event_of s letter number).state (formed_next s letter number (formed_of s ok))

-- and an event leaves a state that is not well formed as it is
pub same_form : (s : RackState) (letter number : ℕ) → well_formed (event_of s letter number).state ≡ well_formed s
same_form s letter number = go (well_formed s) refl (seen s letter number)
  where
    unmoved : {x : RackState} {n : ℕ} → well_formed s ≡ false → NoGrant s x n → well_formed x ≡ well_formed s
    unmoved ill (refused i j) = refl
    unmoved ill (full w ok h) = refl
    unmoved ill (asked c ok t w v) = absurd (true≢false (sym ok ∙ ill))
    unmoved ill (handed c ok t h) = absurd (true≢false (sym ok ∙ ill))

    go : (b : Bool) → well_formed s ≡ b → Seen s (event_of s letter number) → well_formed (event_of s letter number).state ≡ well_formed s
    go true e _ = stays_well_formed s letter number e ∙ sym e
    go false e (quiet z g) = unmoved e g
    go false e (grant z free room st won) = absurd (true≢false (sym (of_formed s won.formed) ∙ e))
