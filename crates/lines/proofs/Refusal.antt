-- The refusals: a search through the competing numbers, and what holds where nothing is refused. Assumes nothing.
use Prim.Native.Nat.{ℕ, zero, suc, ◌+◌, ◌-◌, ◌*◌, ◌%◌, ◌^◌, ◌≤◌, ◌<◌}
use native.Mathlib.Nat.{one-mul}
use native.Mathlib.Numerals.{add-one}
use native.Mathlib.Omega.{arith}
use mathlib.Core.Bool.{Bool, true, false, cond, ◌||◌, or-true, true≢false}
use mathlib.Core.List.{List, [], ◌∷◌}
use mathlib.Core.Path.{◌≡◌, refl, sym, ap, ◌∙◌}
use lib.Dec.{leb, ltb, eqb, lit<}
use lib.ListN.{length, get_or, drop, replicate, drop_of_length-le, length-replicate}
use lib.Pow.{pow_pos, shl_exact}
use lib.Seq.{drop-cons}
use borrow.Author.Tests.{lt-leb, leb-false, lt-ltb, le-ltb, ltb-false, ne_eqb}
use Rattle.lines.specs.Greatest.{greatest}
use Rattle.lines.specs.Settle.{some_from, refusal, Accepted}

module _ (limit : ℕ) (numbers : List ℕ) (i : ℕ) where
  pub from_more : (b : Bool) → i < length numbers
      → ((b || leb limit (get_or numbers i 0)) || some_from limit (drop (i + 1) numbers)) ≡ (b || some_from limit (drop i numbers))
  unfolding some_from
  from_more true less = refl
  from_more false less = rw (add-one i) (sym (ap (some_from limit) (drop-cons numbers i 0 less)))

  pub from_end : length numbers ≤ i → some_from limit (drop i numbers) ≡ false
  unfolding some_from
  from_end all = ap (some_from limit) (drop_of_length-le numbers all)

-- the steps of a search from the front
pub ruleset searching = (from_more, from_end)

-- neither of two tests holds
neither : (a b : Bool) → (a || b) ≡ false → (a ≡ false) × (b ≡ false)
neither true b e = absurd (true≢false e)
neither false b e = (refl, e)

-- no number is from the limit up exactly where the greatest is below it
pub none_from : (limit : ℕ) (numbers : List ℕ) → 0 < limit → some_from limit numbers ≡ false → greatest numbers < limit
unfolding some_from greatest
none_from limit [] some e = some
none_from limit (number ∷ others) some e =
    let parts = neither (leb limit number) (some_from limit others) e in
    omega (arith, leb-false limit number parts.0, none_from limit others some parts.1)

pub all_below_lem : (limit : ℕ) (numbers : List ℕ) → greatest numbers < limit → some_from limit numbers ≡ false
unfolding some_from greatest
all_below_lem limit [] fits = refl
all_below_lem limit (number ∷ others) fits = rw (lt-leb limit number (omega arith), all_below_lem limit others (omega arith))

-- a chain of refusals that ends in 0 met none of them
pub passed : (b : Bool) (r rest : ℕ) → cond b (suc r) rest ≡ 0 → b ≡ false
passed true r rest e = absurd (omega arith)
passed false r rest e = refl

pub after : (b : Bool) (r rest : ℕ) → cond b (suc r) rest ≡ 0 → rest ≡ 0
after true r rest e = absurd (omega arith)
after false r rest e = e

pub zeros_greatest : (count : ℕ) → greatest (replicate count 0) ≡ 0
unfolding greatest
zeros_greatest zero = refl
zeros_greatest (suc count) = omega (arith, zeros_greatest count)

pub at_most : (m rest : ℕ) → cond (eqb m 0 || ltb 12 m) 21 rest ≡ 0 → m ≤ 12
at_most m rest e = ltb-false 12 m (neither (eqb m 0) (ltb 12 m) (passed (eqb m 0 || ltb 12 m) 20 rest e)).1

-- 2 ^ m as the code works it out, in 16 bits
abbrev pub limit_of : ℕ → ℕ
limit_of m = 1 * 2 ^ m % 2 ^ 16

-- what is refused for m and the count of the numbers, whatever they are
pub size_is : (m count : ℕ) → refusal m (replicate count 0) 0 (suc m) ≡ cond (eqb m 0 || ltb 12 m) 21 (cond (ltb 64 count) 22 0)
unfolding refusal
size_is m count =
    let none = all_below_lem (2 ^ m) (replicate count 0) (rw zeros_greatest (pow_pos m)) in
    rw (length-replicate, none, lt-leb (suc m) m (omega arith), le-ltb (2 ^ m - 1) 0 (omega arith))

-- and it comes before what is refused for the numbers, the room and the start
module _ (m : ℕ) (numbers : List ℕ) (size : ℕ) (is : size ≡ refusal m (replicate (length numbers) 0) 0 (suc m)) where
  spelled : size ≡ cond (eqb m 0 || ltb 12 m) 21 (cond (ltb 64 (length numbers)) 22 0)
  spelled = is ∙ size_is m (length numbers)

  pub size_refused : (start room : ℕ) → (size ≡ 0 → ⊥) → size ≡ refusal m numbers start room
  unfolding refusal
  size_refused start room some = go (eqb m 0 || ltb 12 m) (ltb 64 (length numbers)) spelled
    where
      go : (a b : Bool) → size ≡ cond a 21 (cond b 22 0)
          → size ≡ cond a 21 (cond b 22 (cond (some_from (2 ^ m) numbers) 23 (cond (leb room m) 24 (cond (ltb (2 ^ m - 1) start) 25 0))))
      go true b e = e
      go false true e = e
      go false false e = absurd (some e)

  module _ (none : size ≡ 0) where
    nothing : ◌≡◌ {A = ℕ} (cond (eqb m 0 || ltb 12 m) 21 (cond (ltb 64 (length numbers)) 22 0)) 0
    nothing = sym spelled ∙ none

    pub at_most_twelve : m ≤ 12
    at_most_twelve = at_most m _ nothing

    power : limit_of m ≡ 2 ^ m
    power = shl_exact 1 m 16 (lit< tt) (omega (arith, at_most_twelve)) ∙ one-mul (2 ^ m)

    pub limit_some : 1 ≤ limit_of m
    limit_some = omega (arith, power, pow_pos m)

    -- what is left of the definition behind the size
    pub behind_size : (start room : ℕ)
        → refusal m numbers start room ≡ cond (some_from (limit_of m) numbers) 23 (cond (leb room m) 24 (cond (ltb (limit_of m - 1) start) 25 0))
    unfolding refusal
    behind_size start room =
        rw (
          passed (eqb m 0 || ltb 12 m) 20 _ nothing,
          passed (ltb 64 (length numbers)) 21 _ (after (eqb m 0 || ltb 12 m) 20 _ nothing),
          power,
        )

-- more lines than a byte counts are refused, whatever else is lent
pub wide_refused : (m : ℕ) (numbers : List ℕ) (start room : ℕ) → (m < 256 → ⊥) → 21 ≡ refusal m numbers start room
unfolding refusal
wide_refused m numbers start room wide =
    rw (lt-ltb 12 m (omega (arith, wide)), or-true (eqb m 0))

-- what the tests of `accept` leave of the definition, one after another
pub ruleset refusals = (wide_refused, size_refused, at_most_twelve, limit_some, behind_size)

-- nothing is refused: a run may count on what it asks
pub accepted : (m : ℕ) (numbers : List ℕ) (start room : ℕ) → refusal m numbers start room ≡ 0 → Accepted m numbers start room
unfolding refusal
accepted m numbers start room e =
    let counted = after (eqb m 0 || ltb 12 m) 20 _ e in
    let below = after (ltb 64 (length numbers)) 21 _ counted in
    let roomy = after (some_from (2 ^ m) numbers) 22 _ below in
    record {
      few = ltb-false 64 (length numbers) (passed (ltb 64 (length numbers)) 21 _ counted);
      fits = none_from (2 ^ m) numbers (pow_pos m) (passed (some_from (2 ^ m) numbers) 22 _ below);
      small = omega (arith, ltb-false (2 ^ m - 1) start (passed (ltb (2 ^ m - 1) start) 24 _ (after (leb room m) 23 _ roomy)), pow_pos m);
      enough = leb-false room m (passed (leb room m) 23 _ roomy);
    }

-- and the other way round: where each demand is met nothing is refused
pub not_refused : (m : ℕ) (numbers : List ℕ) (start room : ℕ) → 0 < m → m ≤ 12 → Accepted m numbers start room
    → refusal m numbers start room ≡ 0
unfolding refusal
not_refused m numbers start room some most ok =
    rw (
      ne_eqb m 0 (omega arith),
      le-ltb 12 m most,
      le-ltb 64 (length numbers) ok.few,
      all_below_lem (2 ^ m) numbers ok.fits,
      lt-leb room m ok.enough,
      le-ltb (2 ^ m - 1) start (omega (arith, ok.small)),
    )
