-- A settling on lent bytes: what the lines leave there, and what C is told. Assumes nothing.
use Prim.Native.Nat.{ℕ, zero, suc, ◌+◌, ◌*◌, ◌/◌, ◌<◌}
use native.Mathlib.Omega.{arith}
use mathlib.Core.List.{List, [], ◌∷◌, ◌++◌}
use mathlib.Core.Path.{◌≡◌, refl, ap, ◌∙◌}
use mathlib.Core.Bool.{or-true}
use lib.Dec.{eqb}
use lib.ListN.{length, drop}
use borrow.Author.Tests.{lt-ltb}
use Rattle.std.proofs.Common.{Ok, Err}
use Rattle.std.proofs.lemmas.List.{set-get_or}
use Rattle.laptop.proofs.Pairs.{put_next}
use Rattle.laptop.specs.Settle.{SettlesBytes, code_or, bytes_or}
use Rattle.laptop.specs.Words.{bytes}
use Rattle.lines.proofs.Refusal.{accepted}
use Rattle.lines.proofs.Stages.{stages_le}
use Rattle.lines.proofs.Trail.{trail-length}
use Rattle.lines.proofs.Words.{words-length}
use Rattle.lines.specs.Settle.{SettlesIn, settled_or, put_trail, put_or, refusal}
use Rattle.lines.specs.Settled.{as_settled}
use Rattle.lines.specs.Settling.{lines_at, stages, trail}
use Rattle.lines.specs.Words.{words, put_word}
use Rattle.lines.specs.declared.Settling.{Settling}
use Rattle.refusals.proofs.Laws.{some_number}
use Rattle.refusals.specs.Numbers.{number_of}
use Rattle.refusals.specs.declared.Refusal.{Refusal}

module _ (m : ℕ) (ws : List ℕ) (start : ℕ) where
  -- the lines after stages 0 to t, put into bytes
  trail_put : (t : ℕ) (buffer : List ℕ) → t < length buffer / 2
      → put_trail put_word m ws start t buffer ≡ bytes (trail m ws start t) ++ drop (2 * suc t) buffer
  unfolding trail put_trail bytes
  trail_put zero [] some = absurd (omega arith)
  trail_put zero (a ∷ []) some = absurd (omega arith)
  trail_put zero (a ∷ b ∷ rest) some = refl
  trail_put (suc t) buffer room =
      let long = trail-length m ws start t in
      let new = lines_at m ws start (suc t) in
      ap (λ (b : List ℕ). put_word b (suc t) new) (trail_put t buffer (omega arith))
      ∙ rw long at (put_next (trail m ws start t) buffer new (omega (arith, long)))

  pub left_bytes : (buffer : List ℕ) (n : ℕ) → refusal m ws start (length buffer / 2) ≡ n → put_or put_word n m ws start buffer ≡ bytes_or n m ws start buffer
  left_bytes buffer zero none =
      let ok = accepted m ws start (length buffer / 2) none in
      trail_put (stages m ws start) buffer (omega (arith, stages_le m ws start ok.fits ok.small, ok.enough))
  left_bytes buffer (suc refused) is = refl

  -- what C is told of a settling that is done, and of one that is refused
  pub told_done : (n : ℕ) → (settled_or n m ws start).answer ≡ 0
      → code_or n m ws start ≡ (settled_or n m ws start).stages + 256 * (settled_or n m ws start).matches
  told_done zero none = refl
  told_done (suc refused) none = absurd (omega (arith, none))

  pub told_refused : (n : ℕ) → 0 < (settled_or n m ws start).answer → code_or n m ws start ≡ 100 + (settled_or n m ws start).answer
  told_refused zero some = absurd (omega (arith, some))
  told_refused (suc refused) some = refl

-- what the entry that settles has to know, and that a byte put back where it stood changes nothing: an edit of must-fail/ that puts another is refused for that
-- byte
pub ruleset told = (left_bytes, told_done, told_refused, words-length, some_number, set-get_or)

-- more lines than 12 are refused, whatever else is lent
pub refused_wide : (m : ℕ) (ws : List ℕ) (start room : ℕ) → 12 < m → refusal m ws start room ≡ 21
unfolding refusal
refused_wide m ws start room wide = rw (lt-ltb 12 m wide, or-true (eqb m 0))

module _ (m : ℕ) (numbers : List ℕ) (start : ℕ) (buffer last : List ℕ) where
  pub bytes_done : (s : Settling) → SettlesIn put_word m (words numbers) start (length (words buffer)) buffer (as_settled (Ok s)) last
      → SettlesBytes m numbers start buffer (s.stages + 256 * s.matches) last
  bytes_done s settles = grind (arith, told)

  pub bytes_refused : (why : Refusal) → SettlesIn put_word m (words numbers) start (length (words buffer)) buffer (as_settled (Err why)) last
      → SettlesBytes m numbers start buffer (100 + number_of why) last
  bytes_refused why settles = grind (arith, told)
