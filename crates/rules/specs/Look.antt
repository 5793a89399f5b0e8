-- Who is next under round-robin, found by looking and not by settling, as request A7 of document 02 has it. Assumes nothing.
use Rattle.std.specs.Prelude.{ℕ, zero, suc, ◌^◌, max, Bool, cond, ◌&&◌, leb, eqb}

-- looking down from n - 1 to low: the first number that passes the test, or 0 for none
unfoldable pub look_down : (ℕ → Bool) → ℕ → ℕ → ℕ
look_down test low zero = 0
look_down test low (suc n) = cond (leb low n && test n) n (look_down test low n)

-- what a look finds, or, where it finds nobody, what the next one does
abbrev pub or_else : ℕ → ℕ → ℕ
or_else found next = cond (eqb found 0) next found

-- from the last winner less one to 1, then from 2 ^ k - 1 down to the last winner itself; with no last winner from 2 ^ k - 1 down to 1
unfoldable pub look_round : (ℕ → Bool) → ℕ → ℕ → ℕ
look_round test k last = or_else (look_down test 1 last) (look_down test (max 1 last) (2 ^ k))
