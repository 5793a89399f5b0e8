-- One happening more: what it makes of one card's figures and of one entry of the square, beside what the longer history says. Assumes nothing.
use Prim.Native.Nat.{ℕ, ◌+◌}
use native.Mathlib.Numerals.{add-one}
use mathlib.Core.Bool.{Bool, true, false, cond, not, ◌&&◌, ◌||◌}
use mathlib.Core.List.{◌∷◌}
use mathlib.Core.Path.{◌≡◌, refl}
use lib.Dec.{eqb}
use lib.ListN.{length}
use borrow.Author.Tests.{eqb-true}
use Rattle.tally.proofs.Effects.{flag_after}
use Rattle.tally.proofs.History.{Sound}
use Rattle.tally.specs.History.{Happening, asked, granted, released, History, pending, others_since, waits_of, left_waiting, total, total_squares, figures_from}
use Rattle.tally.specs.Tally.{with_running, won_figures}
use Rattle.tally.specs.declared.Figures.{Figures}

-- it can follow that history: only a card that waits is granted, and only one that does not wait asks
unfoldable pub Follows : Happening → History → Type 0
Follows (asked a) h = pending a h ≡ false
Follows (granted w) h = pending w h ≡ true
Follows (released a) h = Unit {0}

pub sound_more : (x : Happening) (h : History) → Follows x h → Sound h → Sound (x ∷ h)
unfolding Follows Sound
sound_more (asked a) h f s = (f, s)
sound_more (granted w) h f s = (f, s)
sound_more (released a) h f s = s

pub pending_more : (x : Happening) (h : History) (b : ℕ) → flag_after x (pending b h) b ≡ pending b (x ∷ h)
unfolding flag_after pending
pending_more (asked a) h b = refl
pending_more (granted w) h b = refl
pending_more (released a) h b = refl

-- the figures f of the card b after it, where v says whether b then waits
unfoldable pub figures_by : Happening → Bool → ℕ → Figures → Figures
figures_by (asked a) v b f = cond (eqb b a) (with_running f 0) f
figures_by (granted w) v b f = cond (eqb b w) (won_figures f) (cond v (with_running f (f.running + 1)) f)
figures_by (released a) v b f = f

pub figures_more : (x : Happening) (h : History) (b : ℕ) → Follows x h
    → figures_by x (flag_after x (pending b h) b) b (figures_from b h) ≡ figures_from b (x ∷ h)
unfolding figures_by flag_after waits_of pending others_since total total_squares Follows
figures_more (asked a) h b follows = by_case (eqb b a)
  where
    by_case : (v : Bool) → cond v (with_running (figures_from b h) 0) (figures_from b h)
        ≡ with_running (figures_from b h) (cond (v || pending b h) (cond v 0 (others_since b h)) 0)
    by_case true = refl
    by_case false = refl
figures_more (granted w) h b follows = by_case (eqb b w) refl
  where
    after : Bool → Figures
    after v =
        let ws = cond v (others_since b h ∷ waits_of b h) (waits_of b h) in
        record {
          grants = length ws;
          sum = total ws;
          squares = total_squares ws;
          running = cond (not v && pending b h) (cond v (others_since b h) (others_since b h + 1)) 0;
        }

    passing : (p : Bool) → cond p (with_running (figures_from b h) (cond p (others_since b h) 0 + 1)) (with_running (figures_from b h) (cond p (others_since b h) 0))
        ≡ with_running (figures_from b h) (cond p (others_since b h + 1) 0)
    passing true = refl
    passing false = refl

    by_case : (v : Bool) → eqb b w ≡ v
        → cond v (won_figures (figures_from b h)) (cond (not v && pending b h) (with_running (figures_from b h) ((figures_from b h).running + 1)) (figures_from b h)) ≡ after v
    by_case true e = let mine : pending b h ≡ true = rw (eqb-true b w e) follows in rw (mine, add-one)
    by_case false e = passing (pending b h)
figures_more (released a) h b follows = refl

-- the entry n of the row b and the column c after it
unfoldable pub entry_by : Happening → Bool → ℕ → ℕ → ℕ
entry_by (asked a) v c n = n
entry_by (granted w) v c n = cond (eqb c w && v) (n + 1) n
entry_by (released a) v c n = n

pub entry_more : (x : Happening) (h : History) (b c : ℕ) → entry_by x (flag_after x (pending b h) b) c (left_waiting b c h) ≡ left_waiting b c (x ∷ h)
unfolding entry_by flag_after left_waiting
entry_more (asked a) h b c = refl
entry_more (granted w) h b c = refl
entry_more (released a) h b c = refl
