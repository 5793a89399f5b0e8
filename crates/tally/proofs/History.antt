-- What the figures of a history can be, where only a card that waits is granted and only one that does not wait asks. Assumes nothing.
use Prim.Native.Nat.{ℕ, suc, ◌+◌, ◌≤◌}
use native.Mathlib.Nat.{mul-le-mul}
use native.Mathlib.Omega.{arith}
use mathlib.Core.Bool.{Bool, true, false, cond, not, ◌&&◌, ◌||◌}
use mathlib.Core.List.{[], ◌∷◌}
use mathlib.Core.Path.{◌≡◌, refl}
use lib.Dec.{eqb}
use lib.ListN.{length}
use borrow.Author.Tests.{le-leb, eqb-true}
use Rattle.tally.proofs.Laws.{of_small}
use Rattle.tally.proofs.Sums.{sum_squared, squares_at_most}
use Rattle.tally.specs.History.{asked, granted, released, History, pending, others_since, waits_of, left_waiting, requests_of, total, running_of, figures_from}
use Rattle.tally.specs.Room.{Small}
use Rattle.tally.specs.Tally.{figures_good}

-- a history in which only a card that waits is granted, and only one that does not wait asks
unfoldable pub Sound : History → Type 0
Sound [] = Unit {0}
Sound (asked b ∷ h) = (pending b h ≡ false) × Sound h
Sound (granted w ∷ h) = (pending w h ≡ true) × Sound h
Sound (released b ∷ h) = Sound h

-- What a sound history's figures may be.
module _ (a : ℕ) where
  grants_at_most : (h : History) → length (waits_of a h) ≤ length h
  unfolding waits_of
  grants_at_most [] = omega arith
  grants_at_most (asked b ∷ h) = omega (arith, grants_at_most h)
  grants_at_most (granted w ∷ h) = by_case (eqb a w) (grants_at_most h)
    where
      by_case : (v : Bool) → length (waits_of a h) ≤ length h → length (cond v (others_since a h ∷ waits_of a h) (waits_of a h)) ≤ suc (length h)
      by_case true before = omega arith
      by_case false before = omega arith
  grants_at_most (released b ∷ h) = omega (arith, grants_at_most h)

  pub left_at_most : (c : ℕ) (h : History) → left_waiting a c h ≤ length h
  unfolding left_waiting
  left_at_most c [] = omega arith
  left_at_most c (asked b ∷ h) = omega (arith, left_at_most c h)
  left_at_most c (granted w ∷ h) = by_case (eqb c w && (not (eqb a w) && pending a h)) (left_at_most c h)
    where
      by_case : (v : Bool) → left_waiting a c h ≤ length h → cond v (left_waiting a c h + 1) (left_waiting a c h) ≤ suc (length h)
      by_case true before = omega arith
      by_case false before = omega arith
  left_at_most c (released b ∷ h) = omega (arith, left_at_most c h)

  -- the waits of one card do not overlap
  sum_at_most : (h : History) → Sound h → total (waits_of a h) + running_of a h ≤ length h
  unfolding waits_of pending others_since total Sound
  sum_at_most [] s = omega arith
  sum_at_most (asked b ∷ h) s = by_case (eqb a b) (sum_at_most h s.1)
    where
      by_case : (v : Bool) → total (waits_of a h) + running_of a h ≤ length h → total (waits_of a h) + cond (v || pending a h) (cond v 0 (others_since a h)) 0 ≤ suc (length h)
      by_case true before = omega arith
      by_case false before = omega arith
  sum_at_most (granted w ∷ h) s = by_case (eqb a w) refl (sum_at_most h s.1)
    where
      waiting : (p : Bool) → total (waits_of a h) + cond p (others_since a h) 0 ≤ length h → total (waits_of a h) + cond p (others_since a h + 1) 0 ≤ suc (length h)
      waiting true l = omega arith
      waiting false l = omega arith

      by_case : (v : Bool) → eqb a w ≡ v → total (waits_of a h) + running_of a h ≤ length h
          → total (cond v (others_since a h ∷ waits_of a h) (waits_of a h)) + cond (not v && pending a h) (cond v (others_since a h) (others_since a h + 1)) 0 ≤ suc (length h)
      by_case true e before =
          let mine : pending a h ≡ true = rw (eqb-true a w e) s.0 in
          let l : total (waits_of a h) + others_since a h ≤ length h = rw mine at before in
          omega arith
      by_case false e before = waiting (pending a h) before
  sum_at_most (released b ∷ h) s = omega (arith, sum_at_most h s)

  -- requests are grants and, for a card that waits, one more
  pub requests_are : (h : History) → Sound h → requests_of a h ≡ length (waits_of a h) + cond (pending a h) 1 0
  unfolding requests_of waits_of pending Sound
  requests_are [] s = refl
  requests_are (asked b ∷ h) s = by_case (eqb a b) refl (requests_are h s.1)
    where
      by_case : (v : Bool) → eqb a b ≡ v → requests_of a h ≡ length (waits_of a h) + cond (pending a h) 1 0 → cond v (requests_of a h + 1) (requests_of a h) ≡ length (waits_of a h) + cond (v || pending a h) 1 0
      by_case true e before =
          let mine : pending a h ≡ false = rw (eqb-true a b e) s.0 in
          let l : requests_of a h ≡ length (waits_of a h) + 0 = rw mine at before in
          omega arith
      by_case false e before = before
  requests_are (granted w ∷ h) s = by_case (eqb a w) refl (requests_are h s.1)
    where
      by_case : (v : Bool) → eqb a w ≡ v → requests_of a h ≡ length (waits_of a h) + cond (pending a h) 1 0 → requests_of a h ≡ length (cond v (others_since a h ∷ waits_of a h) (waits_of a h)) + cond (not v && pending a h) 1 0
      by_case true e before =
          let mine : pending a h ≡ true = rw (eqb-true a w e) s.0 in
          let l : requests_of a h ≡ length (waits_of a h) + 1 = rw mine at before in
          omega arith
      by_case false e before = before
  requests_are (released b ∷ h) s = requests_are h s

  -- 41 is not given for such figures
  pub figures_pass : (h : History) → Sound h → figures_good (length h) (figures_from a h) ≡ true
  unfolding figures_good
  figures_pass h s =
      let ws = waits_of a h in
      let both : total ws + running_of a h ≤ length h = sum_at_most h s in
      let short : total ws ≤ length h = omega arith in
      let small : Small (length h) (figures_from a h) = record {
        grants = grants_at_most h;
        sum = short;
        running = omega arith;
        squares = omega (arith, squares_at_most ws, mul-le-mul short short);
      } in
      rw (of_small (length h) (figures_from a h) small, le-leb _ _ (sum_squared ws))
