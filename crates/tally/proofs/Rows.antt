-- A square whose rows are changed one after another, by rising number. Assumes nothing.
use Rattle.std.proofs.Common.{ℕ, ◌+◌, ◌≤◌, ◌<◌, Bool, true, false, List, [], ◌≡◌, ◌∙◌, refl, arith, length, eqb}
use lib.ListN.{set, length-set}
use lib.Seq.{get_or-set_same, get_or-set_other}
use borrow.Author.Tests.{eqb-true, eqb-false}
use Rattle.std.proofs.lemmas.List.FromFn.{fill_by_all}
use Rattle.cards.proofs.Chains.{tabulate_is_map}
use Rattle.cards.specs.Below.{tabulate}
use Rattle.tally.specs.Tally.{Square, row_of}

-- the rows below b are f of their number, and the others are as they were
pub record Changed (f : ℕ → List ℕ) (q : Square) (b : ℕ) (next : Square) : Type 0 where
  pub long : length next ≡ 64
  pub done : (k : ℕ) → k < b → row_of next k ≡ f k
  pub rest : (k : ℕ) → b ≤ k → row_of next k ≡ row_of q k

module _ (f : ℕ → List ℕ) (q : Square) where
  pub none_changed : length q ≡ 64 → Changed f q 0 q
  none_changed long = record { long = long; done = λ k l. absurd (omega arith); rest = λ k l. refl }

  pub one_changed : (b : ℕ) (next : Square) (row : List ℕ) → b < 64 → Changed f q b next → row ≡ f b → Changed f q (b + 1) (set next b row)
  one_changed b next row below h e = record {
    long = length-set next b row ∙ h.long;
    done = λ k l. by_case k l (eqb k b) refl;
    rest = λ k l. get_or-set_other next b k row [] (λ z. omega arith) ∙ h.rest k (omega arith);
  }
    where
      by_case : (k : ℕ) → k < b + 1 → (t : Bool) → eqb k b ≡ t → row_of (set next b row) k ≡ f k
      by_case k l true at = rw (eqb-true k b at) (get_or-set_same next b row [] (omega (arith, h.long)) ∙ e)
      by_case k l false at =
          let other = eqb-false k b at in
          get_or-set_other next b k row [] other ∙ h.done k (omega (arith, other))

  pub all_changed : (b : ℕ) (next : Square) → b ≡ 64 → Changed f q b next → next ≡ tabulate 64 f
  all_changed b next e h = fill_by_all f next 64 [] h.long (λ k l. h.done k (omega arith)) ∙ tabulate_is_map f 64
