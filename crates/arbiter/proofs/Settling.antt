-- An arbitration, by what the settling of the shown numbers answers and whom it names. Assumes nothing.
use Prim.Native.Nat.{ℕ, ◌^◌, ◌%◌, ◌≤◌, ◌<◌}
use native.Mathlib.Nat.{zero-mod}
use native.Mathlib.Omega.{arith}
use mathlib.Core.Bool.{Bool, false, not, and_comm}
use mathlib.Core.Logic.{◌≢◌}
use mathlib.Core.Path.{◌≡◌, sym, ap, ◌∙◌, subst}
use lib.Dec.{eqb}
use borrow.Author.Tests.{eq-eqb, ne_eqb}
use Rattle.arbiter.proofs.Laws.{shown_settles}
use Rattle.arbiter.specs.Arbitrate.{waits_preferred, some_preferred, settling_of, value_now, winner_of, won_by, arbitrated}
use Rattle.arbiter.specs.Events.{answered}
use Rattle.cards.specs.Below.{any_below}
use Rattle.contest.specs.Shown.{marks_of, shown_settling}
use Rattle.lines.proofs.Silent.{Alike}
use Rattle.lines.specs.Settled.{Settled}
use Rattle.state.specs.declared.RackState.{RackState}

-- the sets are made anew where no waiting card goes first
pub anew_lem : (s : RackState) {some : Bool} → some ≡ any_below 64 (waits_preferred s) → not some ≡ not (some_preferred s)
unfolding some_preferred
anew_lem s is = ap not is

-- what the cards show then settles as the state's competing numbers do
pub settles_alike : (s : RackState) {some : Bool} {t : Settled} → s.table.k ≤ 6 → some ≡ any_below 64 (waits_preferred s)
    → t ≡ shown_settling s.table.k s.table.rule s.last s.value (not some) (marks_of s) → Alike t (settling_of s)
settles_alike s {some} small first is = subst (λ (t : Settled). Alike t (settling_of s)) (sym is) (shown_settles s (not some) (anew_lem s first) small)

module _ (s : RackState) (t : Settled) (alike : Alike t (settling_of s)) where
  -- a settling that is refused grants nobody
  pub unsettled : t.answer ≢ 0 → arbitrated s ≡ answered s 17
  unfolding arbitrated
  unsettled some = rw (ne_eqb (settling_of s).answer 0 (λ none. some (alike.answer ∙ none)))

  pub lines_kept : t.lines ≡ value_now s
  unfolding value_now
  lines_kept = alike.lines

  winner_lem : t.lines % 2 ^ s.table.k ≡ winner_of s
  winner_lem = ap (λ (x : ℕ). x % 2 ^ s.table.k) alike.lines

  -- nor does one that names no card
  pub unnamed : t.lines % 2 ^ s.table.k ≡ 0 → arbitrated s ≡ answered s 17
  unfolding arbitrated
  unnamed none = rw (eq-eqb (winner_of s) 0 (sym winner_lem ∙ none), and_comm (eqb (settling_of s).answer 0) false)

  -- a card that is named has lines that are not 0, and then the settling is that of the competing numbers
  pub settled : {w : ℕ} → t.answer ≡ 0 → w ≡ t.lines % 2 ^ s.table.k → 0 < w → won_by s w t ≡ arbitrated s
  unfolding arbitrated
  settled {w} done is positive =
      let won : w ≡ winner_of s = is ∙ winner_lem in
      let some : winner_of s ≢ 0 = λ none. omega (arith, positive, won, none) in
      let whole : t ≡ settling_of s = alike.all (λ none. some (rw none (zero-mod (2 ^ s.table.k)))) in
      rw (eq-eqb (settling_of s).answer 0 (sym alike.answer ∙ done), ne_eqb (winner_of s) 0 some, ← won, ← whole)
