-- What is found where a look goes down a range of numbers. Assumes nothing.
use Rattle.std.proofs.Common.{ℕ, zero, suc, ◌+◌, ◌-◌, ◌≤◌, ◌<◌, Bool, true, false, cond, ◌&&◌, leb, List, [], ◌∷◌, length, Option, Some, None, ◌≡◌, refl, sym, ◌∙◌, ap, subst, arith, IfSome, ◌⊎◌, inl, inr, not-suc-le-zero}
use borrow.Author.Tests.{leb-true, le-leb, lt-leb}
use Rattle.std.proofs.lemmas.Iterator.{YieldsList}
use Rattle.std.proofs.lemmas.Iterator.Consumers.{YieldsList-from_shown}
use Rattle.std.specs.Iterator.Adapters.{rev_source, rev_steps}
use Rattle.std.specs.List.{find}
use Rattle.std.specs.Option.{unwrap_or, option_map}
use Rattle.std.specs.Range.{range_steps_back}
use Rattle.std.specs.declared.iter.Rev.{Rev}
use Rattle.std.specs.declared.ops.Range.{Range}
use Rattle.cards.proofs.Below.{le_or_lt}
use Rattle.rules.proofs.Looks.{look_end}
use Rattle.rules.specs.Look.{look_down}

-- n - 1, n - 2, .. and low
abbrev pub numbers_down : ℕ → ℕ → List ℕ
numbers_down low zero = []
numbers_down low (suc n) = cond (leb low n) (n ∷ numbers_down low n) []

none_left : (low n : ℕ) → n ≤ low → length (numbers_down low n) ≡ 0
none_left low zero h = refl
none_left low (suc n) h = rw (lt-leb low n h)

one_left : (low n x : ℕ) → low < n → n ≡ x + 1 → numbers_down low n ≡ x ∷ numbers_down low x
one_left low zero x h e = absurd (not-suc-le-zero h)
one_left low (suc n) x h e = let same : x ≡ n = omega arith in rw (same, le-leb low n (omega arith))

-- a range of unsigned integers, taken from its end
abbrev pub steps_down : Range ℕ → Option ℕ → Range ℕ → Type 0
steps_down = range_steps_back (λ a b. b - a) (λ x y. y ≡ x + 1)

pub goes_down : (low n : ℕ) (s : Rev (Range ℕ)) → (rev_source s).start ≡ low → (rev_source s).end ≡ n
    → YieldsList (rev_steps steps_down) (λ x. x) s (numbers_down low n)
goes_down low n s begins ends =
    subst (λ (p : ℕ × ℕ). YieldsList (rev_steps steps_down) (λ x. x) s (numbers_down p.0 p.1)) (λ i. (begins i, ends i))
    (YieldsList-from_shown (rev_steps steps_down) (λ x. x) (λ u. numbers_down (rev_source u).start (rev_source u).end)
    (λ u t p. none_left (rev_source u).start (rev_source u).end (omega (arith, p.1.0)))
    (λ u x t p. rw (p.0, p.1.1) (one_left (rev_source u).start (rev_source u).end (rev_source t).end (omega (arith, p.1.0)) p.1.2)) s)

-- the first of them that passes
found_below : (test : ℕ → Bool) (low n : ℕ) → unwrap_or (find test (numbers_down low n)) 0 ≡ look_down test low n
unfolding look_down
found_below test low zero = refl
found_below test low (suc n) = go (le_or_lt low n) (test n) refl (found_below test low n)
  where
    go : (low ≤ n) ⊎ (n < low) → (b : Bool) → test n ≡ b
        → unwrap_or (find test (numbers_down low n)) 0 ≡ look_down test low n
        → unwrap_or (find test (numbers_down low (suc n))) 0 ≡ cond (leb low n && test n) n (look_down test low n)
    go (inl within) true t before = rw (le-leb low n within, t)
    go (inl within) false t before = rw (le-leb low n within, t) before
    go (inr beyond) b t before = rw (lt-leb low n beyond) (sym (look_end test low n (omega arith)))

-- a number that comes is low or more
least_down : (test : ℕ → Bool) (low n : ℕ) → IfSome (find test (numbers_down low n)) (λ a. low ≤ a)
least_down test low zero = tt
least_down test low (suc n) = go (leb low n) refl (test n) refl (least_down test low n)
  where
    go : (b : Bool) → leb low n ≡ b → (t : Bool) → test n ≡ t → IfSome (find test (numbers_down low n)) (λ a. low ≤ a)
        → IfSome (find test (cond b (n ∷ numbers_down low n) [])) (λ a. low ≤ a)
    go true within true passes before = rw passes (leb-true low n within)
    go true within false fails before = rw fails before
    go false within t same before = tt

-- one that is found
pub found_down : (test : ℕ → Bool) (low n : ℕ) (found : Option ℕ) → option_map (λ x. x) found ≡ find test (numbers_down low n)
    → (unwrap_or found 0 ≡ look_down test low n) × IfSome found (λ a. low ≤ a)
found_down test low n None same = (ap (λ o. unwrap_or o 0) same ∙ found_below test low n, tt)
found_down test low n (Some x) same =
    (ap (λ o. unwrap_or o 0) same ∙ found_below test low n, rw (← same) at (least_down test low n))
