-- A report is known by its answer and its lines. Assumes nothing.
use Prim.Native.Nat.{ℕ}
use native.Mathlib.Omega.{arith}
use mathlib.Core.List.{List}
use mathlib.Core.Path.{◌≡◌, ap}
use Rattle.std.proofs.Common.{Result, Ok, Err}
use Rattle.refusals.proofs.Laws.{one_refusal, some_number}
use Rattle.refusals.specs.declared.Refusal.{Refusal}
use Rattle.report.specs.Report.{Report, as_report}
use Rattle.report.specs.declared.CardLine.{CardLine}

abbrev answer : Report → ℕ
answer report = report.answer

pub one_report : (r q : Result (List CardLine) Refusal) → as_report r ≡ as_report q → r ≡ q
one_report (Ok x) (Ok y) same = ap Ok (ap (λ (report : Report). report.cards) same)
one_report (Ok x) (Err q) same = absurd (omega (arith, some_number q, ap answer same))
one_report (Err r) (Ok y) same = absurd (omega (arith, some_number r, ap answer same))
one_report (Err r) (Err q) same = ap Err (one_refusal (ap answer same))
