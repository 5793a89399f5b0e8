-- What a chain over the numbers below n gives, where its closure computes a test or an entry of each number and changes nothing. Assumes nothing.
use Rattle.std.proofs.Common.{ℕ, zero, suc, ◌+◌, ◌<◌, Bool, List, [], ◌∷◌, ◌++◌, ◌≡◌, refl, sym, ◌∙◌, ap, subst, arith, map, get_or, length, take, cond, add-zero, ◌&&◌, ◌≤◌, Option, true, false}
use mathlib.Core.Bool.{or-false, and-true}
use Rattle.std.specs.List.{list_any, list_all, FoldsTo, range_with_len, count_by}
use Rattle.std.proofs.lemmas.List.FromFn.{map-range_with_len_more, fill_by_all}
use Rattle.std.proofs.lemmas.List.Sums.{sum_by_more}
use Rattle.std.proofs.lemmas.List.Folds.{list_any-append, list_all-append, list_all_more}
use Rattle.std.specs.Array.{IsFromFnResult, IsFromFnResultFrom}
use Rattle.std.specs.Fn.{Called}
use Rattle.std.specs.Iterator.{YieldsThen}
use Rattle.std.specs.Option.{MatchOption}
use Rattle.std.specs.declared.ops.Range.{Range}
use Rattle.std.proofs.iter.Yields.{nat_range_steps}
use Rattle.std.proofs.lemmas.Iterator.{YieldsList-from_range}
use Rattle.std.proofs.lemmas.Iterator.Search.{all_from_yields_List}
use denote.Param.Members.{Mut}
use Rattle.cards.specs.Below.{any_below, all_below, sum_below, count_below, tabulate}

map_id : (xs : List ℕ) → map (λ x. x) xs ≡ xs
map_id [] = refl
map_id (x ∷ xs) = ap (λ l. x ∷ l) (map_id xs)

-- one number more
pushed : {A : Type 0} (f : ℕ → A) (n : ℕ) → map f (range_with_len 0 (suc n)) ≡ map f (range_with_len 0 n) ++ f n ∷ []
pushed f n = let e : suc n ≡ n + 1 = omega arith in ap (λ k. map f (range_with_len 0 k)) e ∙ map-range_with_len_more f 0 n n (omega arith)

numbers : (n : ℕ) → range_with_len 0 (suc n) ≡ range_with_len 0 n ++ n ∷ []
numbers n = sym (map_id (range_with_len 0 (suc n))) ∙ pushed (λ x. x) n ∙ ap (λ l. l ++ n ∷ []) (map_id (range_with_len 0 n))

-- `any` and `all` over the numbers from 0 to n - 1
pub any_listed : (p : ℕ → Bool) (n : ℕ) → list_any p (range_with_len 0 n) ≡ any_below n p
unfolding any_below
any_listed p zero = refl
any_listed p (suc n) =
    ap (list_any p) (numbers n) ∙ list_any-append p (range_with_len 0 n) (n ∷ [])
    ∙ rw (any_listed p n, or-false (p n))

pub all_listed : (p : ℕ → Bool) (n : ℕ) → list_all p (range_with_len 0 n) ≡ all_below n p
unfolding all_below
all_listed p zero = refl
all_listed p (suc n) =
    ap (list_all p) (numbers n) ∙ list_all-append p (range_with_len 0 n) (n ∷ [])
    ∙ rw (all_listed p n, and-true (p n))

-- what `all` and `any` answer over the numbers below n
module _ {F : Type 0} {g : Mut F (ℕ × Unit {0}) Bool} {s : Range ℕ} (p : ℕ → Bool) (n : ℕ) (u : Range ℕ) (f : F) (r : Bool) where
  pub all_over : (xs : List ℕ) × (o : Option ℕ) × (j : F) × YieldsThen nat_range_steps s xs o u × FoldsTo (λ q x t. Called g q (x, tt) true t) f xs j
      × MatchOption o (r ≡ true) (λ x. (r ≡ false) × ((h : F) × Called g j (x, tt) false h))
      → s ≡ record { start = 0; end = n } → ((x : ℕ) (b : Bool) (q : F) → Called g f (x, tt) b q → (q ≡ f) × (b ≡ p x)) → r ≡ all_below n p
  all_over ran from each = all_from_yields_List p u f r ran (YieldsList-from_range 0 n n from (omega arith)) each ∙ all_listed p n

pub tabulate_is_map : {A : Type 0} (f : ℕ → A) (n : ℕ) → map f (range_with_len 0 n) ≡ tabulate n f
unfolding tabulate
tabulate_is_map f zero = refl
tabulate_is_map f (suc n) = pushed f n ∙ ap (λ l. l ++ f n ∷ []) (tabulate_is_map f n)

made_from : {F B : Type 0} (g : Mut F (ℕ × Unit {0}) B) (f : F) (ys : List B) (i k n : ℕ) (d : B) (h : ℕ → B)
    → IsFromFnResultFrom g f ys i n → ((j : ℕ) (y : B) (q : F) → j < i + n → Called g f (j, tt) y q → (q ≡ f) × (y ≡ h j))
    → k < n → get_or ys (i + k) d ≡ h (i + k)
made_from g f ys i k zero d h r each lt = absurd (omega arith)
made_from g f ys i zero (suc n) d h (q, y, at, called, rest) each lt = rw add-zero (at.1 d ∙ (each i y q (omega arith) called).1)
made_from {F = F} g f ys i (suc k) (suc n) d h (q, y, at, called, rest) each lt =
    let same : q ≡ f = (each i y q (omega arith) called).0 in
    let P : F → Type 0 = λ p. IsFromFnResultFrom g p ys (i + 1) n in
    let e : i + suc k ≡ i + 1 + k = omega arith in
    rw e (made_from g f ys (i + 1) k n d h (subst P same rest) (λ j y q l c. each j y q (omega arith) c) (omega arith))

-- the array that `array::from_fn` makes; d is any entry
pub tabulated : {F B : Type 0} (g : Mut F (ℕ × Unit {0}) B) (f : F) (ys : List B) (n : ℕ) (d : B) (h : ℕ → B)
    → IsFromFnResult g f ys n → ((i : ℕ) (y : B) (q : F) → i < n → Called g f (i, tt) y q → (q ≡ f) × (y ≡ h i)) → ys ≡ tabulate n h
tabulated g f ys n d h r each =
    fill_by_all h ys n d r.long (λ k lt.
    let e : 0 + k ≡ k = omega arith in
    subst (λ i. get_or ys i d ≡ h i) e (made_from g f ys 0 k n d h r.each (λ j y q l c. each j y q (omega arith) c) lt))
    ∙ tabulate_is_map h n

-- `all` of the first n elements, by their numbers
pub all_of_list : {A : Type 0} (p : A → Bool) (xs : List A) (d : A) (n : ℕ) → n ≤ length xs
    → list_all p (take n xs) ≡ all_below n (λ a. p (get_or xs a d))
unfolding all_below
all_of_list p xs d zero room = refl
all_of_list p xs d (suc n) room =
    let e : suc n ≡ n + 1 = omega arith in
    ap (λ k. list_all p (take k xs)) e ∙ list_all_more p xs n d (omega arith)
    ∙ ap (λ b. b && p (get_or xs n d)) (all_of_list p xs d n (omega arith))

-- how many of the first n elements pass, counted over the elements or over their numbers
pub count_of_list : {A : Type 0} (p : A → Bool) (xs : List A) (d : A) (n : ℕ) → n ≤ length xs
    → count_by p (take n xs) ≡ count_below n (λ a. p (get_or xs a d))
unfolding sum_below
count_of_list p xs d zero room = refl
count_of_list p xs d (suc n) room =
    let e : suc n ≡ n + 1 = omega arith in
    ap (λ k. count_by p (take k xs)) e ∙ sum_by_more (λ x. cond (p x) 1 0) xs n d (omega arith)
    ∙ ap (λ c. c + cond (p (get_or xs n d)) 1 0) (count_of_list p xs d n (omega arith))
