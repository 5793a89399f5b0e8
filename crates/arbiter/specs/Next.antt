-- Who is next under round-robin, found by looking and not by settling, as request A7 of document 02 has it. Assumes nothing.
use Rattle.std.specs.Prelude.{ℕ, zero, suc, Bool, cond, not, eqb}
use Rattle.arbiter.specs.State.{waits, is_closed, well_formed}
use Rattle.arbiter.specs.NextWinner.{NextWinner}
use Rattle.state.specs.declared.RackState.{RackState}
use Rattle.rules.specs.Look.{look_round}
use Rattle.rules.specs.Rules.{is_robin}

-- 17, 32 if the rule is not round-robin, then 13 and 14 as in an arbitration
unfoldable pub next_refusal : Bool → RackState → ℕ
next_refusal formed s =
    cond (not formed) 17 (cond (not (is_robin s.table.rule)) 32 (cond (is_closed s.bus) 13 (cond (eqb s.waiters 0) 14 0)))

-- a refusal names nobody
abbrev pub told_by : ℕ → ℕ → NextWinner
told_by zero winner = record { answer = 0; winner = winner }
told_by (suc refusal) winner = record { answer = suc refusal; winner = 0 }

-- the first waiting card of the look round, as it is told whether the state is well formed
unfoldable pub next_by : Bool → RackState → NextWinner
next_by formed s = told_by (next_refusal formed s) (look_round (waits s) s.table.k s.last)

-- the answer of request A7: told the truth
abbrev pub next_of : RackState → NextWinner
next_of s = next_by (well_formed s) s
