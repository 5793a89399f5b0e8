-- Lent memory: what each contract leaves in it, by the cases of the definition that it cites. Assumes nothing.
use Prim.Native.Nat.{ℕ, zero, suc, ◌*◌, ◌/◌, ◌%◌, ◌≤◌, ◌<◌}
use native.Mathlib.Omega.{arith}
use mathlib.Core.Bool.{Bool, true, false, cond}
use mathlib.Core.List.{List, ◌++◌}
use mathlib.Core.Logic.{◌≢◌}
use mathlib.Core.Path.{◌≡◌, refl, ap, sym, ◌∙◌}
use lib.Dec.{leb, eqb}
use lib.ListN.{length, drop}
use lib.Seq.{drop_at}
use borrow.Author.Tests.{eqb-true, ne_eqb}
use denote.Triple.Clauses.{at_exit}
use Rattle.std.specs.Prelude.{Result, Ok, Err}
use Rattle.arbiter.specs.contracts as arbiter_contracts
use Rattle.arbiter.proofs.Outcomes.{answered_as, state_as, table_kept as keeps_table, arbitrated_table}
use Rattle.arbiter.proofs.Told.{Kept, kept_by, arbitrated_kept}
use Rattle.arbiter.specs.Events.{answered_by, request_refusal, request_by, release_refusal, release_by}
use Rattle.arbiter.specs.Outcome.{Outcome, as_outcome}
use Rattle.arbiter.specs.State.{well_formed, with_marks, with_bus}
use Rattle.arbiter.specs.declared.Reported.{Reported}
use Rattle.state.specs.declared.RackState.{RackState}
use Rattle.cardfile.proofs.LoadedGood.{loaded_good}
use Rattle.cardfile.specs.Format.{load_table_of}
use Rattle.cardfile.specs.LoadedTable.{LoadedTable}
use Rattle.cards.specs.contracts as cards_contracts
use Rattle.cards.proofs.SavingLaws.{saved_length_lem}
use Rattle.cards.proofs.TableKnown.{table_known}
use Rattle.cards.specs.Saving.{saved_of, buffer_after, saved_bytes, saved_length}
use Rattle.cards.specs.Table.{table_good}
use Rattle.cards.specs.Saved.{Saved, as_saved}
use Rattle.cards.specs.declared.Table.{Table}
use Rattle.laptop.specs.contracts as laptop_contracts
use Rattle.laptop.proofs.Pairs.{bytes-length}
use Rattle.laptop.specs.Settle.{SettlesBytes, code_or, bytes_or}
use Rattle.laptop.specs.Table.{GivesTable, table_bytes, table_answer, table_left}
use Rattle.laptop.specs.Words.{words, bytes}
use Rattle.lines.specs.contracts as lines_contracts
use Rattle.lines.proofs.Refusal.{accepted, at_most}
use Rattle.lines.proofs.Stages.{stages_le}
use Rattle.lines.proofs.Trail.{trail-length}
use Rattle.lines.specs.Settle.{Settles, refusal, settled_or, written_or}
use Rattle.lines.specs.Settling.{stages, trail}
use Rattle.lines.specs.Settled.{Settled, as_settled}
use Rattle.lines.specs.declared.Settling.{Settling as Settlement}
use Rattle.promises.specs.Buffers.{NoRefusalWrites, NothingBeyond, NoEventChangesMore, RefusedGivesZeros}
use Rattle.rack.specs.contracts as rack_contracts
use Rattle.rack.specs.Done.{outcome_in}
use Rattle.rack.specs.declared.Done.{Done}
use Rattle.rack.specs.Files.{save_of, save_after}
use Rattle.refusals.specs.Numbers.{answer_of}
use Rattle.refusals.specs.declared.Refusal.{Refusal}
use Rattle.report.specs.Text.{row_text}
use Rattle.tally.specs.contracts as tally_contracts
use Rattle.tally.proofs.Kept.{refused_counts}
use Rattle.tally.specs.Counted.{Counted}
use Rattle.tally.specs.Tallied.{Tallied}
use Rattle.trace.proofs.Chunks.{listing_size}
use Rattle.trace.specs.Listing.{Lists, listing, lines_within}
use Rattle.trace.specs.declared.Ran.{Ran}

-- a text of that length at the front, and behind it the buffer as it was
behind : (text buffer last : List ℕ) (n : ℕ) → length text ≡ n → last ≡ text ++ drop n buffer → drop n last ≡ drop n buffer
behind text buffer last n long e = ap (drop n) e ∙ drop_at text (drop n buffer) n long

-- ---- settling

record Settling (buffer last : List ℕ) (r : Settled) : Type 0 where
  kept : r.answer ≢ 0 → last ≡ buffer
  beyond : drop (suc r.stages) last ≡ drop (suc r.stages) buffer
  zeros : r.answer ≢ 0 → (r.lines ≡ 0) × (r.stages ≡ 0) × (r.matches ≡ 0)

by_refusal : (m : ℕ) (numbers : List ℕ) (start : ℕ) (buffer last : List ℕ) (r : Settled) (n : ℕ)
    → r ≡ settled_or n m numbers start → last ≡ written_or n m numbers start buffer → Settling buffer last r
by_refusal m numbers start buffer last r zero p q = record {
  kept = λ refused. absurd (refused (ap (λ (s : Settled). s.answer) p));
  beyond = rw p (behind (trail m numbers start (stages m numbers start)) buffer last _ (trail-length m numbers start (stages m numbers start)) q);
  zeros = λ refused. absurd (refused (ap (λ (s : Settled). s.answer) p));
}
by_refusal m numbers start buffer last r (suc n) p q = record {
  kept = λ refused. q;
  beyond = ap (drop (suc r.stages)) q;
  zeros = λ refused. (ap (λ (s : Settled). s.lines) p, ap (λ (s : Settled). s.stages) p, ap (λ (s : Settled). s.matches) p);
}

settling : {m : ℕ} {numbers : List ℕ} {start : ℕ} {buffer last : List ℕ} {r : Settled} → Settles m numbers start buffer r last → Settling buffer last r
settling {m} {numbers} {start} {buffer} {last} {r} s =
    by_refusal m numbers start buffer last r (refusal m numbers start (length buffer)) s.result s.left

-- the number of a refusal, and 0 of none
settled_answer : (r : Result Settlement Refusal) → answer_of r ≡ (as_settled r).answer
settled_answer (Ok done) = refl
settled_answer (Err refused) = refl

-- ---- settling for C

-- t is at most m, which is at most 12
pub few_stages : (m : ℕ) (numbers : List ℕ) (start room : ℕ) → refusal m numbers start room ≡ 0 → stages m numbers start ≤ 12
unfolding refusal
few_stages m numbers start room none =
    let ok = accepted m numbers start room none in
    omega (arith, stages_le m numbers start ok.fits ok.small, at_most m _ none)

record SettlingBytes (buffer last : List ℕ) (r : ℕ) : Type 0 where
  kept : 12 < r % 256 → last ≡ buffer
  beyond : drop (2 * suc (r % 256)) last ≡ drop (2 * suc (r % 256)) buffer

by_code : (m : ℕ) (numbers : List ℕ) (start room : ℕ) (buffer last : List ℕ) (r n : ℕ) → refusal m numbers start room ≡ n
    → r ≡ code_or n m numbers start → last ≡ bytes_or n m numbers start buffer → SettlingBytes buffer last r
by_code m numbers start room buffer last r zero none p q =
    let written = trail m numbers start (stages m numbers start) in
    let t : r % 256 ≡ stages m numbers start = omega (arith, p, few_stages m numbers start room none) in
    record {
      kept = λ more. absurd (omega (arith, t, few_stages m numbers start room none));
      beyond =
          rw t
          (behind (bytes written) buffer last _ (bytes-length written ∙ ap (λ (k : ℕ). 2 * k) (trail-length m numbers start (stages m numbers start))) q);
    }
by_code m numbers start room buffer last r (suc n) some p q = record { kept = λ more. q; beyond = ap (drop (2 * suc (r % 256))) q }

settling_bytes : {m : ℕ} {numbers : List ℕ} {start : ℕ} {buffer last : List ℕ} {r : ℕ} → SettlesBytes m numbers start buffer r last
    → SettlingBytes buffer last r
settling_bytes {m} {numbers} {start} {buffer} {last} {r} s =
    by_code m (words numbers) start (length buffer / 2) buffer last r _ refl s.result s.left

-- ---- a save

record Saving (buffer last : List ℕ) (r : Saved) : Type 0 where
  kept : r.answer ≢ 0 → last ≡ buffer
  beyond : drop r.len last ≡ drop r.len buffer
  zero : r.answer ≢ 0 → r.len ≡ 0

saving_refused : (buffer last : List ℕ) (r : Saved) (n : ℕ) → r ≡ record { answer = n; len = 0 } → last ≡ buffer → Saving buffer last r
saving_refused buffer last r n p q =
    record { kept = λ refused. q; beyond = ap (drop r.len) q; zero = λ refused. ap (λ (s : Saved). s.len) p }

saving : (t : Table) (buffer last : List ℕ) (r : Saved) → r ≡ saved_of t (length buffer) → last ≡ buffer_after t buffer → Saving buffer last r
unfolding saved_of buffer_after
saving t buffer last r = go (table_good t) (leb (saved_length t) (length buffer))
  where
    go : (good fits : Bool)
        → r ≡ cond good (cond fits (record { answer = 0; len = saved_length t }) (record { answer = 8; len = 0 })) (record { answer = 17; len = 0 })
        → last ≡ cond good (cond fits (saved_bytes t ++ drop (saved_length t) buffer) buffer) buffer → Saving buffer last r
    go true true p q = record {
      kept = λ refused. absurd (refused (ap (λ (s : Saved). s.answer) p));
      beyond = rw p (behind (saved_bytes t) buffer last _ (saved_length_lem t) q);
      zero = λ refused. absurd (refused (ap (λ (s : Saved). s.answer) p));
    }
    go true false p q = saving_refused buffer last r 8 p q
    go false fits p q = saving_refused buffer last r 17 p q

saving_state : (s : RackState) (buffer last : List ℕ) (r : Saved) → r ≡ save_of s (length buffer) → last ≡ save_after s buffer → Saving buffer last r
unfolding save_of save_after
saving_state s buffer last r = go (well_formed s)
  where
    go : (formed : Bool) → r ≡ cond formed (saved_of s.table (length buffer)) (record { answer = 17; len = 0 })
        → last ≡ cond formed (buffer_after s.table buffer) buffer → Saving buffer last r
    go true p q = saving s.table buffer last r p q
    go false p q = saving_refused buffer last r 17 p q

saved_answer : (r : Result ℕ Refusal) → answer_of r ≡ (as_saved r).answer
saved_answer (Ok len) = refl
saved_answer (Err refused) = refl

-- ---- a table for C

table_kept : {file buffer last : List ℕ} {r : ℕ} → GivesTable file buffer r last → r ≢ 0 → last ≡ buffer
unfolding table_left
table_kept {file} {buffer} gives refused = gives.left ∙ rw (ne_eqb _ 0 (λ (none : table_answer (load_table_of file) (length buffer) ≡ 0). refused (gives.result ∙ none)))

-- one that is done was loaded
loads : (loaded : LoadedTable) (room : ℕ) → table_answer loaded room ≡ 0 → loaded.answer ≡ 0
unfolding table_answer
loads loaded room = go (eqb loaded.answer 0) refl
  where
    go : (b : Bool) → eqb loaded.answer 0 ≡ b → cond b (cond (leb 66 room) 0 8) loaded.answer ≡ 0 → loaded.answer ≡ 0
    go true e done = eqb-true _ 0 e
    go false e done = done

table_beyond : {file buffer last : List ℕ} {r : ℕ} → GivesTable file buffer r last → drop 66 last ≡ drop 66 buffer
unfolding table_left table_bytes
table_beyond {file} {buffer} {last} gives = go (eqb answer 0) refl gives.left
  where
    answer : ℕ
    answer = table_answer (load_table_of file) (length buffer)

    go : (b : Bool) → eqb answer 0 ≡ b → last ≡ cond b (table_bytes (load_table_of file).table ++ drop 66 buffer) buffer → drop 66 last ≡ drop 66 buffer
    go true e q =
        let good = loaded_good file (loads (load_table_of file) (length buffer) (eqb-true answer 0 e)) in
        behind (table_bytes (load_table_of file).table) buffer last 66 (omega (arith, (table_known (load_table_of file).table good).long)) q
    go false e q = ap (drop 66) q

-- ---- a run over a trace

run_beyond : {s : RackState} {trace buffer : List ℕ} {r : Ran} {last : List ℕ} → Lists s trace buffer r last
    → drop r.written last ≡ drop r.written buffer
run_beyond {s} {trace} {buffer} {r} {last} lists =
    let l = listing s trace (lines_within trace buffer) in
    rw lists.result (behind l.text buffer last _ (listing_size s trace (lines_within trace buffer)) lists.left)

-- ---- the events on a lent state

-- what an event tells is of the state that it left
left_by : (last : RackState) (r : Result Reported Refusal) (o : Outcome) → as_outcome last r ≡ o → last ≡ o.state
left_by last r o e = sym (state_as last r) ∙ ap (λ (p : Outcome). p.state) e

event_kept : (s last : RackState) (r : Result Reported Refusal) (o : Outcome) → Kept s o → as_outcome last r ≡ o → answer_of r ≢ 0 → last ≡ s
event_kept s last r o kept e refused =
    left_by last r o e
    ∙ ap (λ (p : Outcome). p.state) (kept (λ done. refused (sym (answered_as last r) ∙ ap (λ (p : Outcome). p.answer) e ∙ done)))

-- what holds of the state where the event is done and where it is refused
either : (Holds : RackState → Type 0) (b : Bool) (x y : Outcome) → Holds x.state → Holds y.state → Holds (cond b x y).state
either Holds true x y p q = p
either Holds false x y p q = q

module _ (formed : Bool) (s : RackState) where
  request_changes : (a : ℕ) (e : RackState) → e ≡ (request_by formed s a).state → e ≡ with_marks s e.waiting e.counts e.waiters
  unfolding answered_by
  request_changes a e left =
      rw left (either (λ (e : RackState). e ≡ with_marks s e.waiting e.counts e.waiters) (eqb (request_refusal formed s a) 0) _ _ refl refl)

  release_changes : (a : ℕ) (e : RackState) → e ≡ (release_by formed s a).state → e ≡ with_bus s s.last e.bus
  unfolding answered_by
  release_changes a e left = rw left (either (λ (e : RackState). e ≡ with_bus s s.last e.bus) (eqb (release_refusal formed s a) 0) _ _ refl refl)

-- ---- an event that is counted in a lent tally

event_answer : (s : RackState) (r : Result Done Refusal) → answer_of r ≡ (outcome_in s r).answer
event_answer s (Ok done) = refl
event_answer s (Err refused) = refl

-- ---- all together

pub no_refusal_writes : NoRefusalWrites
no_refusal_writes = record {
  settle = λ κ a r b p refused.
      let kept = (settling p).kept (λ done. refused (settled_answer r ∙ done)) in
      λ i. at_exit lines_contracts.settle.ended κ a (tt, (tt, (tt, (kept i, tt))));
  save_table = λ κ a r b p refused.
      let kept = (saving _ _ _ _ p.0 p.1).kept (λ done. refused (saved_answer r ∙ done)) in
      λ i. at_exit cards_contracts.save_table.ended κ a (tt, (kept i, tt));
  save = λ κ a r b p refused.
      let kept = (saving_state _ _ _ _ p.0 p.1).kept (λ done. refused (saved_answer r ∙ done)) in
      λ i. at_exit rack_contracts.save.ended κ a (tt, (kept i, tt));
  rack_settle = λ κ a r b p refused.
      let kept = (settling_bytes p).kept (omega arith) in
      λ i. at_exit laptop_contracts.rack_settle.ended κ a (tt, (tt, (kept i, (tt, tt))));
  rack_table = λ κ a r b p refused.
      let kept = table_kept p refused in
      λ i. at_exit laptop_contracts.rack_table.ended κ a (tt, (kept i, tt));
  request_in = λ κ a r b p refused.
      let kept = event_kept _ _ r _ (kept_by _ _ _ (λ some. absurd (some refl))) p refused in
      λ i. at_exit arbiter_contracts.request_in.ended κ a (tt, (kept i, (tt, tt)));
  release_in = λ κ a r b p refused.
      let kept = event_kept _ _ r _ (kept_by _ _ _ (λ some. absurd (some refl))) p refused in
      λ i. at_exit arbiter_contracts.release_in.ended κ a (tt, (kept i, (tt, tt)));
  arbitrate_in = λ κ a r b p refused.
      let kept = event_kept _ _ r _ (kept_by _ _ _ (arbitrated_kept _)) p refused in
      λ i. at_exit arbiter_contracts.arbitrate_in.ended κ a (tt, (kept i, tt));
  event_tallied = λ κ a r b p refused.
      let same = (refused_counts _ _ _ _ _ (λ done. refused (event_answer _ r.event ∙ ap (λ (q : Tallied). q.outcome.answer) p.0 ∙ done))).0 in
      let kept = p.1 ∙ ap (λ (c : Counted). c.tally) same in
      λ i. at_exit tally_contracts.event_tallied.ended κ a (kept i, (tt, (tt, (tt, (tt, tt)))));
}

pub nothing_beyond : NothingBeyond
nothing_beyond = record {
  settle = λ κ a r e p. (settling p).beyond;
  save_table = λ κ a r e p. (saving _ _ _ _ p.0 p.1).beyond;
  save = λ κ a r e p. (saving_state _ _ _ _ p.0 p.1).beyond;
  rack_settle = λ κ a r e p. (settling_bytes p).beyond;
  rack_table = λ κ a r e p. table_beyond p;
  run = λ κ a r e p. run_beyond p;
  row_text = λ κ a r e p. rw p.0 (behind (row_text a.0 a.1.0 a.1.1.0) _ _ _ refl p.1);
}

pub no_event_changes_more : NoEventChangesMore
no_event_changes_more = record {
  request_in = λ κ a r e p. request_changes _ _ _ _ (left_by _ r _ p);
  release_in = λ κ a r e p. release_changes _ _ _ _ (left_by _ r _ p);
  arbitrate_in = λ κ a r e p. ap (λ (s : RackState). s.table) (left_by _ r _ p) ∙ keeps_table _ _ _ (arbitrated_table _);
}

pub refused_gives_zeros : RefusedGivesZeros
refused_gives_zeros = record {
  settle = λ κ a r e p refused. (settling p).zeros (λ done. refused (settled_answer r ∙ done));
  save_table = λ κ a r e p refused. (saving _ _ _ _ p.0 p.1).zero (λ done. refused (saved_answer r ∙ done));
  save = λ κ a r e p refused. (saving_state _ _ _ _ p.0 p.1).zero (λ done. refused (saved_answer r ∙ done));
}
