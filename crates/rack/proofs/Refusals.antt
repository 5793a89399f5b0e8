-- A refused event returns the state that it was given, with its answer alone. Assumes nothing.
use mathlib.Core.Logic.{◌≢◌}
use mathlib.Core.Path.{◌≡◌, refl, ap, sym, ◌∙◌}
use native.Mathlib.Omega.{arith}
use Rattle.std.proofs.Common.{ℕ, Err}
use Rattle.arbiter.proofs.Refusals.{told_truth}
use Rattle.arbiter.proofs.Told.{Kept, kept_by, arbitrated_kept}
use Rattle.arbiter.specs.Arbitrate.{arbitrated, arbitrate_refusal, arbitrate_by, arbitrate_of}
use Rattle.arbiter.specs.Events.{answered, request_refusal, requested, request_of, release_refusal, released, release_of}
use Rattle.arbiter.specs.Outcome.{Outcome, as_outcome}
use Rattle.arbiter.specs.State.{well_formed}
use Rattle.rack.specs.Done.{outcome_in}
use Rattle.refusals.proofs.Laws.{some_number}
use Rattle.refusals.specs.Numbers.{number_of}
use Rattle.refusals.specs.declared.Refusal.{Refusal}
use Rattle.state.specs.declared.RackState.{RackState}

pub refused_outcome : (s : RackState) (refusal : Refusal) → outcome_in s (Err refusal) ≡ answered s (number_of refusal)
refused_outcome s refusal = refl

-- whatever the state is then that the event was lent
pub refused_kept : (s lent : RackState) (o : Outcome) (refusal : Refusal) → Kept s o → as_outcome lent (Err refusal) ≡ o → outcome_in s (Err refusal) ≡ o
refused_kept s lent o refusal kept told =
    let number : number_of refusal ≡ o.answer = ap (λ (o : Outcome). o.answer) told in
    let some : o.answer ≢ 0 = λ none. omega (arith, number, none, some_number refusal) in
    refused_outcome s refusal ∙ ap (answered s) number ∙ sym (kept some)

-- a request and a release that are not refused answer 0
pub request_refused : (s lent : RackState) (a : ℕ) (refusal : Refusal)
    → as_outcome lent (Err refusal) ≡ request_of s a → outcome_in s (Err refusal) ≡ request_of s a
request_refused s lent a refusal =
    refused_kept s lent (request_of s a) refusal (kept_by s (request_refusal (well_formed s) s a) (answered (requested s a) 0) (λ some. absurd (some refl)))

pub release_refused : (s lent : RackState) (a : ℕ) (refusal : Refusal)
    → as_outcome lent (Err refusal) ≡ release_of s a → outcome_in s (Err refusal) ≡ release_of s a
release_refused s lent a refusal =
    refused_kept s lent (release_of s a) refusal (kept_by s (release_refusal (well_formed s) s a) (answered (released s a) 0) (λ some. absurd (some refl)))

pub arbitrate_refused : (s lent : RackState) (refusal : Refusal)
    → as_outcome lent (Err refusal) ≡ arbitrate_by (well_formed s) s → outcome_in s (Err refusal) ≡ arbitrate_of s
arbitrate_refused s lent refusal told =
    refused_kept s lent (arbitrate_of s) refusal (kept_by s (arbitrate_refusal (well_formed s) s) (arbitrated s) (arbitrated_kept s)) (told ∙ told_truth s)
