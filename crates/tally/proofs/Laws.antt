-- What figures, a tally and a square that pass the tests of 41 are. Assumes nothing.
use Prim.Native.Nat.{ℕ, ◌*◌, ◌≤◌, ◌<◌}
use native.Mathlib.Nat.{mul-le-mul}
use native.Mathlib.Omega.{arith}
use mathlib.Core.Bool.{Bool, true, false, cond, not, ◌&&◌, ◌||◌, false≢true}
use mathlib.Core.Path.{◌≡◌, refl, sym}
use lib.Dec.{leb, eqb}
use borrow.Author.Tests.{leb-true, leb-false, le-leb, lt-ltb, ltb-true, not-false}
use Rattle.cards.proofs.Below.{all_at, all_each}
use Rattle.cards.specs.Below.{all_below}
use Rattle.arbiter.proofs.Tests.{and_left, and_right, both}
use Rattle.arbiter.specs.Outcome.{Outcome}
use Rattle.tally.specs.Room.{Small, room_at, SquareRoom, counted_on}
use Rattle.tally.specs.Tally.{Square, figures_of, row_of, entry_of, figures_small, variance_good, figures_good, card_good, entry_good, row_good, tally_good, counted_answer}
use Rattle.tally.specs.declared.Figures.{Figures}
use Rattle.tally.specs.declared.Tally.{Tally}

-- a choice between a thing and itself
pub cond_same : {A : Type 0} (t : Bool) {x : A} → cond t x x ≡ x
cond_same true = refl
cond_same false = refl

module _ (n : ℕ) (f : Figures) where
  pub small_of : figures_small n f ≡ true → Small n f
  unfolding figures_small
  small_of h =
      let g = leb f.grants n in
      let s = leb f.sum n in
      let r = leb f.running n in
      let three : (g && s && r) ≡ true = and_left (g && s && r) (leb f.squares (n * n)) h in
      let two : (g && s) ≡ true = and_left (g && s) r three in
      record {
        grants = leb-true f.grants n (and_left g s two);
        sum = leb-true f.sum n (and_right g s two);
        running = leb-true f.running n (and_right (g && s) r three);
        squares = leb-true f.squares (n * n) (and_right (g && s && r) (leb f.squares (n * n)) h);
      }

  pub of_small : Small n f → figures_small n f ≡ true
  unfolding figures_small
  of_small s = rw (le-leb _ _ s.grants, le-leb _ _ s.sum, le-leb _ _ s.running, le-leb _ _ s.squares)

  module _ (h : figures_good n f ≡ true) where
    pub good_small : Small n f
    unfolding figures_good
    good_small = small_of (and_left (figures_small n f) (variance_good f) h)

    pub good_variance : f.sum * f.sum ≤ f.grants * f.squares
    unfolding figures_good
    good_variance = leb-true (f.sum * f.sum) (f.grants * f.squares) (and_right (figures_small n f) (variance_good f) h)

-- ---- the widths are enough

-- a square of 16 bits is below 2 ^ 32
pub square_small : (n : ℕ) → n < 65536 → n * n ≤ 4294836225
square_small n h = let l : n ≤ 65535 = omega arith in mul-le-mul l l

-- and so grants times squares is below 2 ^ 48
pub spread_small : (n : ℕ) (f : Figures) → n < 65536 → Small n f → f.grants * f.squares ≤ 281462092005375
spread_small n f h s =
    let l : f.grants ≤ 65535 = omega (arith, s.grants) in
    let m : f.squares ≤ 4294836225 = omega (arith, s.squares, square_small n h) in
    mul-le-mul l m

-- where the sum passes, its square is below 2 ^ 32
pub sum_small : (n : ℕ) (f : Figures) → n < 65536 → Small n f → f.sum * f.sum ≤ 4294836225
sum_small n f h s = let l : f.sum ≤ 65535 = omega (arith, s.sum) in mul-le-mul l l

-- ---- the tally and the square as they are counted on

pub cards_of_lem : (t : Tally) (q : Square) → tally_good t q ≡ true → all_below 64 (card_good t) ≡ true
unfolding tally_good
cards_of_lem t q h = and_left (all_below 64 (card_good t)) (all_below 64 (row_good t.events q)) h

pub rows_of : (t : Tally) (q : Square) → tally_good t q ≡ true → all_below 64 (row_good t.events q) ≡ true
unfolding tally_good
rows_of t q h = and_right (all_below 64 (card_good t)) (all_below 64 (row_good t.events q)) h

pub card_small : (t : Tally) → all_below 64 (card_good t) ≡ true → (b : ℕ) → b < 64 → Small t.events (figures_of t b)
card_small t h b l = good_small t.events (figures_of t b) (all_at 64 (card_good t) h b l)

-- rows without an entry over n, where n leaves room, have room for one more at each place
pub rows_room : (n : ℕ) (q : Square) → n < 65535 → all_below 64 (row_good n q) ≡ true → (w : ℕ) → w < 64 → all_below 64 (room_at q w) ≡ true
rows_room n q below rows w l = all_each 64 (room_at q w) (λ b m. lt-ltb (entry_of q b w) 65535 (omega (arith, entry b m)))
  where
    entry : (b : ℕ) → b < 64 → entry_of q b w ≤ n
    entry b m = leb-true (entry_of q b w) n (all_at 64 (entry_good n (row_of q b)) (all_at 64 (row_good n q) rows b m) w l)

-- a row of a square that has room at w
pub row_room : (q : Square) (w b : ℕ) → all_below 64 (room_at q w) ≡ true → b < 64 → entry_of q b w < 65535
row_room q w b h l = ltb-true (entry_of q b w) 65535 (all_at 64 (room_at q w) h b l)

module _ (n : ℕ) (q : Square) (o : Outcome) where
  pub room_of : n < 65535 → o.winner < 64 → all_below 64 (row_good n q) ≡ true → SquareRoom q o
  room_of room below rows = record { card = below; room = λ _. rows_room n q room rows _ below }

  pub counted_on_lem : n < 65535 → o.winner < 64 → all_below 64 (row_good n q) ≡ true → counted_on n q o ≡ true
  counted_on_lem room below rows = both _ _ (both _ _ (lt-ltb n 65535 room) (lt-ltb o.winner 64 below)) rows

-- what is known where a counted event is done
pub record Counts (t : Tally) (q : Square) (n : ℕ) : Type 0 where
  pub done : n ≡ 0
  pub below : t.events < 65535
  pub good : tally_good t q ≡ true

-- neither 17 nor 18, 31 nor 41
first_open : (a b c : Bool) (n : ℕ) → cond a n (cond b 31 (cond c 41 n)) ≡ 0 → (n ≡ 0 → a ≡ false) → (n ≡ 0) × ((b ≡ false) × (c ≡ false))
first_open true b c n h other = absurd (false≢true (sym (other h)))
first_open false true c n h other = absurd (omega arith)
first_open false false true n h other = absurd (omega arith)
first_open false false false n h other = (h, (refl, refl))

pub counts : (t : Tally) (q : Square) (n : ℕ) → counted_answer t q n ≡ 0 → Counts t q n
unfolding counted_answer
counts t q n h =
    let open-all = first_open (eqb n 17 || eqb n 18) (leb 65535 t.events) (not (tally_good t q)) n h (λ z. rw z refl) in
    record {
      done = open-all.0;
      below = leb-false 65535 t.events open-all.1.0;
      good = not-false (tally_good t q) open-all.1.1;
    }
