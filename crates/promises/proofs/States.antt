-- Demand 1 for states and events. Assumes nothing.
use Prim.Native.Nat.{ℕ}
use native.Mathlib.Omega.{arith}
use mathlib.Core.Bool.{Bool, true, false, cond, true≢false}
use mathlib.Core.List.{List}
use mathlib.Core.Logic.{◌⊎◌, inl, inr, ◌≢◌}
use mathlib.Core.Path.{◌≡◌, refl, sym, ap, ◌∙◌}
use lib.Dec.{eqb}
use Rattle.arbiter.proofs.Formed.{formed_of, of_formed, some_stored, fresh_well_formed}
use Rattle.arbiter.proofs.Kept.{stays_well_formed}
use Rattle.arbiter.proofs.Seen.{NoGrant, refused, full, asked, handed, Seen, quiet, grant, seen}
use Rattle.arbiter.proofs.Told.{refused_keeps}
use Rattle.arbiter.proofs.Winner.{arbitrated_won}
use Rattle.arbiter.specs.Arbitrate.{settling_of, winner_of, some_loser_full, grant_to, won_by, arbitrate_refusal, event_of}
use Rattle.arbiter.specs.Events.{answered, answered_by, request_refusal, release_refusal}
use Rattle.arbiter.specs.State.{recount, well_formed, fresh_of}
use Rattle.state.specs.declared.RackState.{RackState}
use Rattle.cardfile.proofs.LoadedGood.{loaded_good, refused_zero}
use Rattle.cardfile.specs.Format.{refused_with}
use Rattle.cards.specs.Table.{table_good}
use Rattle.promises.specs.States.{StaysWellFormed, LoadsWellFormed, RefusedEventKeeps, IllFormedRefused, CountKept, CountTold, OnlyFullRefuses}
use Rattle.promises.specs.Runs.{outcome_of, next}
use Rattle.rack.specs.Files.{load_of}
use Rattle.rack.specs.HowMany.{how_many_of}
use Rattle.rack.specs.HowMany.{HowMany}

pub events_keep_formed : StaysWellFormed
events_keep_formed s e = stays_well_formed s e.letter e.number

pub loads_well_formed : LoadsWellFormed
loads_well_formed file done = fresh_well_formed (load_of file).state.table (loaded_good file done)

-- ---- a refused event

pub refused_event_keeps : RefusedEventKeeps
refused_event_keeps s e = refused_keeps s e.letter e.number

-- what the letter selects, for the outcome as for its number
by_letter_lem : (s : RackState) (q a r : Bool)
    → cond q (answered s 17) (cond a (answered s 17) (cond r (answered s 17) (answered s 18))) ≡ answered s (cond q 17 (cond a 17 (cond r 17 18)))
by_letter_lem s true a r = refl
by_letter_lem s false true r = refl
by_letter_lem s false false true = refl
by_letter_lem s false false false = refl

pub ill_formed_refused : IllFormedRefused
unfolding event_of answered_by request_refusal release_refusal arbitrate_refusal
ill_formed_refused s e ill = rw ill (by_letter_lem s (eqb e.letter 81) (eqb e.letter 65) (eqb e.letter 82))

-- ---- an arbitration

pub only_full_refuses : OnlyFullRefuses
unfolding answered_by arbitrate_refusal won_by
only_full_refuses s ok free some =
    rw (ok, free, some_stored s (formed_of s ok) some, arbitrated_won s ok some) (by_room (some_loser_full s (winner_of s)))
  where
    by_room : (full : Bool) → ((cond full (answered s 16) (grant_to s (winner_of s) (settling_of s))).answer ≡ 0)
        ⊎ ((cond full (answered s 16) (grant_to s (winner_of s) (settling_of s))).answer ≡ 16)
    by_room true = inr refl
    by_room false = inl refl

-- ---- the stored number of waiting cards

pub count_kept : CountKept
count_kept s e right = go (well_formed s) refl (seen s e.letter e.number)
  where
    unmoved : {x : RackState} {n : ℕ} → well_formed s ≡ false → NoGrant s x n → x.waiters ≡ recount x.waiting
    unmoved ill (refused i j) = right
    unmoved ill (full w ok h) = right
    unmoved ill (asked c ok t w v) = absurd (true≢false (sym ok ∙ ill))
    unmoved ill (handed c ok t h) = absurd (true≢false (sym ok ∙ ill))

    go : (b : Bool) → well_formed s ≡ b → Seen s (outcome_of s e) → (next s e).waiters ≡ recount (next s e).waiting
    go true ok _ = (formed_of (next s e) (stays_well_formed s e.letter e.number ok)).waiters_counted
    go false ill (quiet z g) = unmoved ill g
    go false ill (grant z free room st won) = absurd (true≢false (sym (of_formed s won.formed) ∙ ill))

pub count_told : CountTold
unfolding how_many_of
count_told s = go (well_formed s) refl
  where
    told : Bool → HowMany
    told b = cond b (record { answer = 0; count = s.waiters }) (record { answer = 17; count = 0 })

    go : (b : Bool) → well_formed s ≡ b → (told b).answer ≡ 0 → (told b).count ≡ recount s.waiting
    go true ok done = (formed_of s ok).waiters_counted
    go false ill done = let none : ◌≡◌ {A = ℕ} 17 0 = done in absurd (omega arith)

-- ---- a refused load

pub refused_load : (file : List ℕ) → (load_of file).answer ≢ 0 → (load_of file).state ≡ fresh_of (refused_with 0).table
refused_load file some = ap fresh_of (refused_zero file some)

pub zero_not_formed : well_formed (fresh_of (refused_with 0).table) ≡ false
unfolding well_formed table_good refused_with
zero_not_formed = refl
