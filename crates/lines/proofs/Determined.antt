-- Each public contract of this crate admits one result. Assumes nothing.
use Prim.Native.Nat.{ℕ, zero, suc, ◌+◌, ◌^◌, ◌<◌}
use native.Mathlib.Nat.{pow-suc}
use native.Mathlib.Omega.{arith}
use mathlib.Core.Path.{◌≡◌, refl, sym, ap, ◌∙◌}
use Rattle.std.proofs.Common.{Result, Ok, Err}
use denote.Param.Laws.{Laws, IsCopy}
use denote.RattleType.{RattleType}
use mir.Syntax.{Dict}
use Rattle.lines.proofs as lines
use Rattle.lines.specs.contracts as contracts
use Rattle.lines.specs.Settled.{Settled, as_settled}
use Rattle.lines.specs.declared.Settling.{Settling}
use Rattle.lines.specs.declared.entry.Entry as entry
use Rattle.one_result.proofs.Laws.{one_result}
use Rattle.one_result.specs.Determined.{Determined}
use Rattle.refusals.proofs.Laws.{one_of_none, one_refusal, some_number}
use Rattle.refusals.specs.Numbers.{answer_of}
use Rattle.refusals.specs.declared.Refusal.{Refusal}
use Rattle.std.specs.Prelude.{IfOk}
use Rattle.std.specs.declared.clone.Clone as clone

-- n lines are wide enough for n
wide : (n : ℕ) → n < 2 ^ n
wide zero = omega arith
wide (suc n) = omega (arith, pow-suc 2 n, wide n)

-- the contract speaks of every number of lines that is wide enough for both: their sum is
pub applied_by_determined : Determined contracts.applied_by.ended lines.applied_by.Reads.Learnt
applied_by_determined κ (carried, (own, none)) x y b c p q =
    let enough : carried + own < 2 ^ (carried + own) = wide (carried + own) in
    (one_result (p (carried + own) (omega arith) (omega arith)) (q (carried + own) (omega arith) (omega arith)), refl)

pub check_size_determined : Determined contracts.check_size.ended lines.check_size.Reads.Learnt
check_size_determined κ a x y b c p q = (one_of_none x y (one_result p q), refl)

-- what is accepted is known by the refusal, or else by the widths' values
one_taken : (A B : ℕ) (r q : Result (ℕ × ℕ) Refusal) → answer_of r ≡ answer_of q → IfOk r (λ t. (t.0 ≡ A) × (t.1 ≡ B)) → IfOk q (λ t. (t.0 ≡ A) × (t.1 ≡ B)) → r ≡ q
one_taken A B (Ok s) (Ok t) e is so = ap Ok (λ i. ((is.0 ∙ sym so.0) i, (is.1 ∙ sym so.1) i))
one_taken A B (Ok s) (Err why) e is so = absurd (omega (arith, some_number why, e))
one_taken A B (Err why) (Ok t) e is so = absurd (omega (arith, some_number why, e))
one_taken A B (Err why) (Err other) e is so = ap Err (one_refusal e)

-- a settling is known by what it answers
pub one_settled : (r q : Result Settling Refusal) → as_settled r ≡ as_settled q → r ≡ q
one_settled (Ok s) (Ok t) e = λ i. Ok (record { lines = (e i).lines; stages = (e i).stages; matches = (e i).matches })
one_settled (Ok s) (Err why) e = absurd (omega (arith, some_number why, ap (λ (x : Settled). x.answer) e))
one_settled (Err why) (Ok t) e = absurd (omega (arith, some_number why, ap (λ (x : Settled). x.answer) e))
one_settled (Err why) (Err other) e = ap Err (one_refusal (ap (λ (x : Settled). x.answer) e))

pub settle_in_determined : (E : RattleType) (laws : Laws E) (copy : IsCopy E) (entry : entry.Ghosts E.Denot) (entry_dict : Dict)
    (clone : clone.Ghosts E.Denot) (clone_dict : Dict)
    → Determined (contracts.settle_in.ended E entry entry_dict clone clone_dict)
    (lines.settle_in.Reads.Learnt E laws copy entry entry_dict clone clone_dict)
settle_in_determined E laws copy entry entry_dict clone clone_dict κ a x y b c p q =
    (one_settled x y (one_result p.result q.result), λ i. (tt, (tt, (tt, (one_result p.left q.left i, tt)))))

pub accept_determined : (E : RattleType) (laws : Laws E) (copy : IsCopy E) (entry : entry.Ghosts E.Denot) (entry_dict : Dict)
    (clone : clone.Ghosts E.Denot) (clone_dict : Dict)
    → Determined (contracts.accept.ended E entry entry_dict clone clone_dict)
    (lines.accept.Reads.Learnt E laws copy entry entry_dict clone clone_dict)
accept_determined E laws copy entry entry_dict clone clone_dict κ a x y b c p q = (one_taken _ _ x y (one_result p.0 q.0) p.1 q.1, refl)

pub settle_determined : Determined contracts.settle.ended lines.settle.Reads.Learnt
settle_determined κ a x y b c p q =
    (one_settled x y (one_result p.result q.result), λ i. (tt, (tt, (tt, (one_result p.left q.left i, tt)))))
