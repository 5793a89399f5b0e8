-- What holds after each stage of a settling, wherever its lines are kept, and what follows where two neighbouring stages agree. Assumes nothing.
use Prim.Native.Nat.{ℕ, suc, ◌^◌, ◌≤◌, ◌<◌}
use native.Mathlib.Nat.{eq-or-lt_of_le, le_of_suc-le-suc}
use native.Mathlib.Omega.{arith}
use mathlib.Core.List.{List}
use mathlib.Core.Logic.{⊎_elim}
use mathlib.Core.Path.{◌≡◌, refl, sym, ap, ◌∙◌}
use Rattle.lines.proofs.Join.{lines_lt}
use Rattle.lines.proofs.Stages.{not_yet, least_unique, stages_least}
use Rattle.lines.specs.Greatest.{greatest}
use Rattle.lines.specs.Settling.{stage, lines_at, stages}

-- After stage t: the lines, and that each stage up to t changed some line.
pub record Walked (m : ℕ) (numbers : List ℕ) (start t lines : ℕ) : Type 0 where
  pub bound : t ≤ m
  pub carried : lines ≡ lines_at m numbers start t
  pub changed : (u : ℕ) → u < t → lines_at m numbers start u ≡ lines_at m numbers start (suc u) → ⊥

pub walked_none : (m : ℕ) (numbers : List ℕ) (start : ℕ) → Walked m numbers start 0 start
unfolding lines_at
walked_none m numbers start = record { bound = omega arith; carried = refl; changed = λ u less e. absurd (omega arith) }

module _ (m : ℕ) (numbers : List ℕ) (start t lines : ℕ)
    (fits : greatest numbers < 2 ^ m) (small : start < 2 ^ m) (walked : Walked m numbers start t lines) where
  pub carried_lt : lines < 2 ^ m
  carried_lt = rw walked.carried (lines_lt m numbers start t fits small)

  module _ (next : ℕ) (is-next : next ≡ stage m numbers lines) where
    pub next_lines : next ≡ lines_at m numbers start (suc t)
    unfolding lines_at
    next_lines = is-next ∙ ap (stage m numbers) walked.carried

    steady_not : (next ≡ lines → ⊥) → lines_at m numbers start t ≡ lines_at m numbers start (suc t) → ⊥
    steady_not other same = other (next_lines ∙ sym same ∙ sym walked.carried)

    -- a stage that changes some line is one of the first m
    pub more : (next ≡ lines → ⊥) → t < m
    more other = not_yet m numbers start fits small t walked.bound (steady_not other)

    pub walked_next : (next ≡ lines → ⊥) → Walked m numbers start (suc t) next
    walked_next other = record {
      bound = more other;
      carried = next_lines;
      changed = λ u less e.
          ⊎_elim (λ (now : u ≡ t). steady_not other (rw now at e)) (λ (l : u < t). walked.changed u l e) (eq-or-lt_of_le (le_of_suc-le-suc less));
    }

    -- the stages t, where the next stage changes nothing
    pub walked_end : next ≡ lines → t ≡ stages m numbers start
    walked_end same =
        least_unique m numbers start t (stages m numbers start)
        (record { steady = sym walked.carried ∙ sym same ∙ next_lines; before = walked.changed })
        (stages_least m numbers start fits small)
