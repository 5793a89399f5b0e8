-- `rules::look_round` meets its contract: by what the first look finds. Nobody stands beyond the 64 numbers, so that a look may begin there. Assumes nothing.
use Rattle.std.proofs.Common.{◌≡◌, ◌≤◌, ℕ, ◌^◌, min, max, Bool, false, List, length, Option, Some, None, IfSome, MatchOption, unwrap_or, sym, ◌∙◌, arith, rules}
use lib.ListN.{get_or-eq_default}
use borrow.Author.Tests.{ne_eqb}
use Rattle.rules.proofs.Looks.{look_within}
use Rattle.rules.proofs.look_round.Goals as goal
use Rattle.rules.specs.Look.{look_down, look_round}
use Rattle.rules.specs.Marks.{is_in}

module _ (cards : List Bool) (long : length cards ≡ 64) (k last : ℕ) where
  within : (low n : ℕ) → look_down (is_in cards) low n ≡ look_down (is_in cards) low (min 64 n)
  within low n = look_within (is_in cards) low n 64 (λ a beyond. get_or-eq_default cards false (omega arith))

  -- what the first look finds, or else what the second does
  either : (found both : Option ℕ) → unwrap_or found 0 ≡ look_down (is_in cards) 1 (min 64 last) → IfSome found (λ a. 1 ≤ a)
      → MatchOption found (unwrap_or both 0 ≡ look_down (is_in cards) (max 1 last) (min 64 (2 ^ k))) (λ a. both ≡ Some a)
      → unwrap_or both 0 ≡ look_round (is_in cards) k last
  unfolding look_round
  either None both first positive second = rw (within 1 last, ← first) (second ∙ sym (within (max 1 last) (2 ^ k)))
  either (Some a) both first positive second = rw (second, within 1 last, ← first, ne_eqb a 0 (omega arith))

pub returns : goal.returns
returns c =
    let long : length c.args.waiting ≡ 64 = search rules in
    let second : MatchOption c.look_down.result
    (unwrap_or c.or_else.result 0 ≡ look_down (is_in c.args.waiting) (max 1 c.args.last) (min 64 (2 ^ c.args.k)))
    (λ a. c.or_else.result ≡ Some a) = search rules in
    c.unwrap_or.ensures
    ∙ either c.args.waiting long c.args.k c.args.last c.look_down.result c.or_else.result
    (rw c.below_last.ensures at c.look_down.ensures.first) c.look_down.ensures.within second
