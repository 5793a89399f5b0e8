-- A test of every element of a list is a test of every index. Assumes nothing.
use Rattle.std.proofs.Common.{ℕ, zero, suc, ◌+◌, ◌≤◌, Bool, List, ◌≡◌, ◌∙◌, ◌&&◌, refl, sym, ap, arith, length, get_or, take}
use lib.Seq.{take-length}
use Rattle.std.specs.List.{list_all}
use Rattle.std.proofs.lemmas.List.Folds.{list_all_more}
use Rattle.cards.specs.Below.{all_below}

module _ {A : Type 0} (p : A → Bool) (xs : List A) (d : A) where
  front : (n : ℕ) → n ≤ length xs → list_all p (take n xs) ≡ all_below n (λ i. p (get_or xs i d))
  unfolding all_below
  front zero l = refl
  front (suc n) l =
      let one_more : suc n ≡ n + 1 = omega arith in
      let before : n ≤ length xs = omega arith in
      ap (λ k. list_all p (take k xs)) one_more ∙ list_all_more p xs n d (omega arith) ∙ ap (λ t. t && p (get_or xs n d)) (front n before)

  pub all_listed : (n : ℕ) → length xs ≡ n → list_all p xs ≡ all_below n (λ i. p (get_or xs i d))
  all_listed n long =
      let whole : take n xs ≡ xs = ap (λ k. take k xs) (sym long) ∙ take-length xs in
      sym (ap (list_all p) whole) ∙ front n (omega arith)
