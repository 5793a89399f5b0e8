-- A well-formed state, part by part, and that a freshly loaded good table is one. Assumes nothing.
use Prim.Native.Nat.{ℕ, ◌^◌, ◌≤◌, ◌<◌}
use mathlib.Core.Bool.{Bool, true, false, not, ◌&&◌, false≢true}
use mathlib.Core.Logic.{◌⊎◌, inl, inr, ◌≢◌}
use mathlib.Core.Path.{◌≡◌, refl, sym, ap, ◌∙◌}
use lib.Dec.{eqb}
use lib.ListN.{length, length-replicate, get_or-eq_default, replicate}
use lib.Pow.{pow_pos}
use borrow.Author.Tests.{ltb-true, lt-ltb, eqb-true, eqb-false, eq-eqb, ne_eqb}
use Rattle.arbiter.proofs.Tests.{and_left, and_right, otherwise, both, if_so, or_so, replicate_default}
use Rattle.arbiter.specs.State.{waits, count_of, in_batch, is_inhibited, is_card, mark_fits, sets_fit, mark_ok, sized_ok, last_ok, bus_ok, lines_of}
use Rattle.arbiter.specs.State.{recount, well_formed, fresh_of}
use Rattle.state.specs.declared.RackState.{RackState}
use Rattle.cards.proofs.Below.{implied, le_or_lt, all_at, all_each}
use Rattle.cards.proofs.Counted.{any_counted, count_nobody}
use Rattle.cards.proofs.TableKnown.{table_known, card_range}
use Rattle.cards.specs.Below.{any_below}
use Rattle.cards.specs.Table.{table_good}
use Rattle.cards.specs.declared.Table.{Table}
use Rattle.rules.specs.Marks.{is_in}
use Rattle.rules.specs.Rules.{lines_by}

-- the marks of a number
pub record Mark (s : RackState) (n : ℕ) : Type 0 where
  pub in_table_lem : waits s n ≡ true → is_card s n ≡ true
  pub small : count_of s n < 2 ^ s.table.k
  pub counted : count_of s n ≢ 0 → (waits s n ≡ true) × (s.table.rule ≡ 2)
  pub batched : in_batch s n ≡ true → (waits s n ≡ true) × (s.table.rule ≡ 3)
  pub barred : is_inhibited s n ≡ true → (is_card s n ≡ true) × (s.table.rule ≡ 4)

pub record Formed (s : RackState) : Type 0 where
  pub table_good_lem : table_good s.table ≡ true
  pub waiting_size : length s.waiting ≡ 64
  pub counts_size : length s.counts ≡ 64
  pub batch_size : length s.batch ≡ 64
  pub inhibited_size : length s.inhibited ≡ 64
  pub marks : (n : ℕ) → n < 64 → Mark s n
  pub last_known : last_ok s ≡ true
  pub bus_known : bus_ok s ≡ true
  pub value_small : s.value < 2 ^ lines_of s
  pub waiters_counted : s.waiters ≡ recount s.waiting

mark_of : (s : RackState) (n : ℕ) → mark_ok s n ≡ true → Mark s n
unfolding mark_fits sets_fit
mark_of s n e =
    record {
      in_table_lem = implied (waits s n) (is_card s n) (search (e, and_left, and_right));
      small = ltb-true (count_of s n) (2 ^ s.table.k) (search (e, and_left, and_right));
      counted = λ h. parts (waits s n) 2
          (otherwise (eqb (count_of s n) 0) (waits s n && eqb s.table.rule 2) (search (e, and_left, and_right)) (ne_eqb (count_of s n) 0 h));
      batched = λ t. parts (waits s n) 3 (implied (in_batch s n) (waits s n && eqb s.table.rule 3) (search (e, and_left, and_right)) t);
      barred = λ t. parts (is_card s n) 4 (implied (is_inhibited s n) (is_card s n && eqb s.table.rule 4) (search (e, and_left, and_right)) t);
    }
  where
    parts : (test : Bool) (r : ℕ) → (test && eqb s.table.rule r) ≡ true → (test ≡ true) × (s.table.rule ≡ r)
    parts test r h = (and_left test _ h, eqb-true s.table.rule r (and_right test _ h))

of_mark : (s : RackState) (n : ℕ) → Mark s n → mark_ok s n ≡ true
unfolding mark_fits sets_fit
of_mark s n m =
    both _ _
    (both _ _ (both _ _ (if_so (waits s n) (is_card s n) m.in_table_lem) (lt-ltb (count_of s n) (2 ^ s.table.k) m.small))
    (or_so (eqb (count_of s n) 0) (waits s n && eqb s.table.rule 2) (λ some. joined (waits s n) 2 (m.counted (eqb-false (count_of s n) 0 some)))))
    (both _ _ (if_so (in_batch s n) (waits s n && eqb s.table.rule 3) (λ t. joined (waits s n) 3 (m.batched t)))
    (if_so (is_inhibited s n) (is_card s n && eqb s.table.rule 4) (λ t. joined (is_card s n) 4 (m.barred t))))
  where
    joined : (test : Bool) (r : ℕ) → (test ≡ true) × (s.table.rule ≡ r) → (test && eqb s.table.rule r) ≡ true
    joined test r h = both test (eqb s.table.rule r) h.0 (eq-eqb s.table.rule r h.1)

pub formed_of : (s : RackState) → well_formed s ≡ true → Formed s
unfolding well_formed
formed_of s e =
    record {
      table_good_lem = and_left (table_good s.table) _ e;
      waiting_size = eqb-true (length s.waiting) 64 (search (sized, and_left, and_right));
      counts_size = eqb-true (length s.counts) 64 (search (sized, and_left, and_right));
      batch_size = eqb-true (length s.batch) 64 (search (sized, and_left, and_right));
      inhibited_size = eqb-true (length s.inhibited) 64 (search (sized, and_left, and_right));
      marks = λ n l. mark_of s n (all_at 64 (mark_ok s) (search (e, and_left, and_right)) n l);
      last_known = search (e, and_left, and_right);
      bus_known = search (e, and_left, and_right);
      value_small = ltb-true s.value (2 ^ lines_of s) (search (e, and_left, and_right));
      waiters_counted = eqb-true s.waiters (recount s.waiting) (search (e, and_left, and_right));
    }
  where
    sized : sized_ok s ≡ true
    sized = search (e, and_left, and_right)

pub of_formed : (s : RackState) → Formed s → well_formed s ≡ true
unfolding well_formed
of_formed s f =
    both _ _ f.table_good_lem (both _ _
    (both _ _ (both _ _ (eq-eqb (length s.waiting) 64 f.waiting_size) (eq-eqb (length s.counts) 64 f.counts_size))
    (both _ _ (eq-eqb (length s.batch) 64 f.batch_size) (eq-eqb (length s.inhibited) 64 f.inhibited_size)))
    (both _ _ (both _ _ (both _ _ (both _ _ (all_each 64 (mark_ok s) (λ n l. of_mark s n (f.marks n l))) f.last_known) f.bus_known)
    (lt-ltb s.value (2 ^ lines_of s) f.value_small)) (eq-eqb s.waiters (recount s.waiting) f.waiters_counted)))

-- what a well-formed state gives
module _ (s : RackState) (f : Formed s) where
  pub formed_width : (1 ≤ s.table.k) × (s.table.k ≤ 6)
  formed_width = (table_known s.table f.table_good_lem).width

  pub formed_rule : s.table.rule ≤ 4
  formed_rule = (table_known s.table f.table_good_lem).rule

  -- the stored count tells whether some card waits
  stored_tells : any_below 64 (waits s) ≡ not (eqb s.waiters 0)
  stored_tells = any_counted 64 (waits s) ∙ ap (λ (n : ℕ). not (eqb n 0)) (sym f.waiters_counted)

  pub some_wait : eqb s.waiters 0 ≡ false → any_below 64 (waits s) ≡ true
  some_wait e = stored_tells ∙ ap not e

  pub some_stored : any_below 64 (waits s) ≡ true → eqb s.waiters 0 ≡ false
  some_stored t = go (eqb s.waiters 0) (sym stored_tells ∙ t)
    where
      go : (b : Bool) → not b ≡ true → b ≡ false
      go true e = absurd (false≢true e)
      go false e = refl

  pub waiting_below : (a : ℕ) → waits s a ≡ true → a < 64
  waiting_below a t = go (le_or_lt 64 a)
    where
      go : (64 ≤ a) ⊎ (a < 64) → a < 64
      go (inl l) = absurd (false≢true (sym (get_or-eq_default s.waiting false (rw f.waiting_size l)) ∙ t))
      go (inr l) = l

  pub waiting_card : (a : ℕ) → waits s a ≡ true → is_card s a ≡ true
  waiting_card a t = (f.marks a (waiting_below a t)).in_table_lem t

  pub card_positive : (a : ℕ) → a < 64 → is_card s a ≡ true → 0 < a
  card_positive a h card = (card_range s.table f.table_good_lem a h card).0

  pub card_small : (a : ℕ) → a < 64 → is_card s a ≡ true → a < 2 ^ s.table.k
  card_small a h card = (card_range s.table f.table_good_lem a h card).1

-- a number whose marks stay as they are
pub same_mark : (s s' : RackState) (n : ℕ) → s'.table ≡ s.table → waits s' n ≡ waits s n → count_of s' n ≡ count_of s n
    → in_batch s' n ≡ in_batch s n → is_inhibited s' n ≡ is_inhibited s n → Mark s n → Mark s' n
same_mark s s' n table w c b i m =
    record {
      in_table_lem = λ t. rw table (m.in_table_lem (sym w ∙ t));
      small = rw (c, table) m.small;
      counted = λ h. (w ∙ (m.counted (λ z. h (c ∙ z))).0, rw table (m.counted (λ z. h (c ∙ z))).1);
      batched = λ t. (w ∙ (m.batched (sym b ∙ t)).0, rw table (m.batched (sym b ∙ t)).1);
      barred = λ t. rw table (m.barred (sym i ∙ t));
    }

-- a freshly loaded table
pub fresh_well_formed : (t : Table) → table_good t ≡ true → well_formed (fresh_of t) ≡ true
fresh_well_formed t good =
    of_formed (fresh_of t) (record {
      table_good_lem = good;
      waiting_size = length-replicate 64 false;
      counts_size = length-replicate {A = ℕ} 64 0;
      batch_size = length-replicate 64 false;
      inhibited_size = length-replicate 64 false;
      marks = λ n l. record {
        in_table_lem = λ w. absurd (nobody n w);
        small = rw (replicate_default {A = ℕ} 64 n 0) (pow_pos t.k);
        counted = λ h. absurd (h (replicate_default {A = ℕ} 64 n 0));
        batched = λ t. absurd (nobody n t);
        barred = λ t. absurd (nobody n t);
      };
      last_known = refl;
      bus_known = refl;
      value_small = pow_pos (lines_by t.k t.rule);
      waiters_counted = nobody_counted;
    })
  where
    nobody_counted : 0 ≡ recount (replicate 64 false)
    nobody_counted = count_nobody 64 (is_in (replicate 64 false)) (λ n. replicate_default {A = Bool} 64 n false)

    nobody : (n : ℕ) → is_in (replicate 64 false) n ≡ true → ⊥
    nobody n t = false≢true (sym (replicate_default {A = Bool} 64 n false) ∙ t)
