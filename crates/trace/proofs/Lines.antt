-- What a line of the shape of one asks for, by its letter, and by its number where that is A; any other line is malformed. Assumes nothing.
use Prim.Native.Nat.{ℕ}
use mathlib.Core.Bool.{true, false}
use mathlib.Core.Logic.{◌≢◌}
use mathlib.Core.Path.{◌≡◌}
use borrow.Author.Tests.{ne_eqb}
use Rattle.std.proofs.Common.{Some, None}
use Rattle.trace.specs.Line.{shaped, two_digits, line_of}
use Rattle.trace.specs.declared.Event.TheVariants.{Request, Arbitrate, Release}

pub line_unshaped : (letter gap tens ones end : ℕ) → shaped gap tens ones end ≡ false → None ≡ line_of letter gap tens ones end
unfolding line_of
line_unshaped letter gap tens ones end bad = rw bad

module _ (letter gap tens ones end : ℕ) (ok : shaped gap tens ones end ≡ true) where
  pub line_q : letter ≡ 81 → Some (Request (two_digits tens ones)) ≡ line_of letter gap tens ones end
  unfolding line_of
  line_q q = rw (ok, q)

  pub line_a : letter ≡ 65 → two_digits tens ones ≡ 0 → Some Arbitrate ≡ line_of letter gap tens ones end
  unfolding line_of
  line_a a none = rw (ok, a, none)

  pub line_a_wrong : letter ≡ 65 → two_digits tens ones ≢ 0 → None ≡ line_of letter gap tens ones end
  unfolding line_of
  line_a_wrong a some = rw (ok, a, ne_eqb _ 0 some)

  pub line_r : letter ≡ 82 → Some (Release (two_digits tens ones)) ≡ line_of letter gap tens ones end
  unfolding line_of
  line_r r = rw (ok, r)

  pub line_other : letter ≢ 81 → letter ≢ 65 → letter ≢ 82 → None ≡ line_of letter gap tens ones end
  unfolding line_of
  line_other q a r = rw (ok, ne_eqb letter 81 q, ne_eqb letter 65 a, ne_eqb letter 82 r)
