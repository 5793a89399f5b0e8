-- A result of the rack is known by what tells of it. Assumes nothing.
use Prim.Native.Nat.{ℕ}
use native.Mathlib.Omega.{arith}
use mathlib.Core.Path.{◌≡◌, refl, sym, ap, ◌∙◌}
use Rattle.std.proofs.Common.{Result, Ok, Err}
use Rattle.arbiter.specs.Outcome.{Outcome}
use Rattle.rack.specs.Done.{outcome_in}
use Rattle.rack.specs.HowMany.{as_how_many}
use Rattle.rack.specs.Loaded.{as_loaded}
use Rattle.rack.specs.declared.Done.{Done}
use Rattle.refusals.proofs.Laws.{one_refusal, some_number}
use Rattle.refusals.specs.Numbers.{number_of}
use Rattle.refusals.specs.declared.Refusal.{Refusal}
use Rattle.state.specs.declared.RackState.{RackState}

-- so is any result that is told by its refusal's number, or by 0 and what is done
pub one_told : {A R : Type 0} (told : Result A Refusal → R) (answer : R → ℕ) (value : R → A)
    → ((x : A) → (answer (told (Ok x)) ≡ 0) × (value (told (Ok x)) ≡ x)) → ((refusal : Refusal) → answer (told (Err refusal)) ≡ number_of refusal)
    → (r q : Result A Refusal) → told r ≡ told q → r ≡ q
one_told told answer value done refused (Ok x) (Ok y) same = ap Ok (sym (done x).1 ∙ ap value same ∙ (done y).1)
one_told told answer value done refused (Ok x) (Err q) same = absurd (omega (arith, some_number q, refused q, (done x).0, ap answer same))
one_told told answer value done refused (Err r) (Ok y) same = absurd (omega (arith, some_number r, refused r, (done y).0, ap answer same))
one_told told answer value done refused (Err r) (Err q) same = ap Err (one_refusal (sym (refused r) ∙ ap answer same ∙ refused q))

abbrev done_by : Outcome → Done
done_by o = record { state = o.state; reported = record { winner = o.winner; lines = o.lines; stages = o.stages; matches = o.matches } }

pub one_done : (s : RackState) (r q : Result Done Refusal) → outcome_in s r ≡ outcome_in s q → r ≡ q
one_done s = one_told (outcome_in s) (λ o. o.answer) done_by (λ x. (refl, refl)) (λ refusal. refl)

pub one_how_many : (r q : Result ℕ Refusal) → as_how_many r ≡ as_how_many q → r ≡ q
one_how_many = one_told as_how_many (λ o. o.answer) (λ o. o.count) (λ x. (refl, refl)) (λ refusal. refl)

pub one_loaded : (r q : Result RackState Refusal) → as_loaded r ≡ as_loaded q → r ≡ q
one_loaded = one_told as_loaded (λ o. o.answer) (λ o. o.state) (λ x. (refl, refl)) (λ refusal. refl)
