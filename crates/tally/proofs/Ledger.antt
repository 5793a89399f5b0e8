-- From a fresh state, a zero tally and a zero square, through any events: the figures are those worked out from the whole history. Assumes nothing.
use Prim.Native.Nat.{ℕ, ◌+◌, ◌<◌}
use native.Mathlib.Omega.{arith}
use mathlib.Core.Bool.{Bool, true, false, cond, ◌&&◌}
use mathlib.Core.List.{List, [], ◌∷◌}
use mathlib.Core.Path.{◌≡◌, refl, sym, ap, ◌∙◌}
use lib.Dec.{eqb}
use lib.ListN.{length, get_or, set, replicate, length-set, length-replicate, get_or-replicate}
use lib.Seq.{get_or-set_same, get_or-set_other}
use borrow.Author.Tests.{eqb-true, eqb-false, eq-eqb, le-leb}
use Rattle.cards.proofs.Below.{all_each, tabulate_at}
use Rattle.cards.specs.Below.{tabulate}
use Rattle.cards.specs.declared.Table.{Table}
use Rattle.arbiter.specs.Arbitrate.{arbitrate_of, event_of}
use Rattle.arbiter.specs.Events.{answered, request_of, release_of}
use Rattle.arbiter.specs.Runs.{Event}
use Rattle.arbiter.specs.State.{waits}
use Rattle.arbiter.specs.Outcome.{Outcome}
use Rattle.state.specs.declared.RackState.{RackState}
use Rattle.tally.proofs.Effects.{flag_after, is_granted, Effect, asked_below, asked_new, asked_effect, released_effect, granted-known, granted_waited, granted_effect}
use Rattle.tally.proofs.Happenings.{Follows, sound_more, pending_more, figures_by, figures_more, entry_by, entry_more}
use Rattle.tally.proofs.History.{Sound, left_at_most, figures_pass}
use Rattle.tally.proofs.Laws.{counts}
use Rattle.tally.specs.History.{Happening, asked, granted, released, pending, waits_of, left_waiting, total, total_squares, figures_from}
use Rattle.tally.specs.Ledger.{Ledger, start, happened, next, run}
use Rattle.tally.specs.Tally.{Square, no_figures, figures_of, row_of, entry_of, card_good, entry_good, row_good, tally_good, counted_answer}
use Rattle.tally.specs.Tally.{asked_figures, granted_figures, figures_after, card_after, tally_after, row_after, rows_after, is_grant, square_after, counted_by, counted_of}
use Rattle.tally.specs.declared.Figures.{Figures}

-- the ledger agrees with its history
pub record True (g : Ledger) : Type 0 where
  pub events : g.tally.events ≡ length g.past
  pub cards : (b : ℕ) → b < 64 → figures_of g.tally b ≡ figures_from b g.past
  pub waiting : (b : ℕ) → b < 64 → waits g.state b ≡ pending b g.past
  pub entries : (b c : ℕ) → b < 64 → c < 64 → entry_of g.square b c ≡ left_waiting b c g.past
  pub rows : (b : ℕ) → b < 64 → length (row_of g.square b) ≡ 64
  pub sound : Sound g.past

pub true_start : (t : Table) → True (start t)
unfolding pending waits_of left_waiting Sound total total_squares
true_start t = record {
  events = refl;
  cards = λ b l. get_or-replicate 64 b no_figures no_figures l;
  waiting = λ b l. get_or-replicate 64 b false false l;
  entries = λ b c l m. ap (λ (r : List ℕ). get_or r c 0) (get_or-replicate 64 b (replicate 64 0) [] l) ∙ get_or-replicate 64 c 0 0 m;
  rows = λ b l. ap length (get_or-replicate 64 b (replicate 64 0) [] l) ∙ length-replicate {A = ℕ} 64 0;
  sound = tt;
}

-- ---- the square after one event

unfoldable WinnerIs : Happening → Outcome → Type 0
WinnerIs (asked a) o = Unit {0}
WinnerIs (granted w) o = (o.winner ≡ w) × (w < 64)
WinnerIs (released a) o = Unit {0}

-- an entry of one row, whose card then waits as v says
row_entry : (row : List ℕ) (v : Bool) (w c : ℕ) → w < length row → get_or (row_after row v w) c 0 ≡ cond (eqb c w && v) (get_or row c 0 + 1) (get_or row c 0)
unfolding row_after
row_entry row true w c l = by_case (eqb c w) refl
  where
    by_case : (u : Bool) → eqb c w ≡ u → get_or (set row w (get_or row w 0 + 1)) c 0 ≡ cond (u && true) (get_or row c 0 + 1) (get_or row c 0)
    by_case true e = rw (eqb-true c w e) (get_or-set_same row w (get_or row w 0 + 1) 0 l)
    by_case false e = get_or-set_other row w c (get_or row w 0 + 1) 0 (eqb-false c w e)
row_entry row false w c l = by_case (eqb c w)
  where
    by_case : (u : Bool) → get_or row c 0 ≡ cond (u && false) (get_or row c 0 + 1) (get_or row c 0)
    by_case true = refl
    by_case false = refl

row_long : (row : List ℕ) (v : Bool) (w : ℕ) → length (row_after row v w) ≡ length row
unfolding row_after
row_long row true w = length-set row w (get_or row w 0 + 1)
row_long row false w = refl

module _ (q : Square) (o : Outcome) (rows : (b : ℕ) → b < 64 → length (row_of q b) ≡ 64) where
  row_at : (b : ℕ) → b < 64 → row_of (tabulate 64 (rows_after q o.state.waiting o.winner)) b ≡ rows_after q o.state.waiting o.winner b
  row_at b l = tabulate_at 64 (rows_after q o.state.waiting o.winner) b [] l

  square_entry : (x : Happening) → is_grant o ≡ is_granted x → WinnerIs x o → (b c : ℕ) → b < 64
      → entry_of (square_after q o) b c ≡ entry_by x (waits o.state b) c (entry_of q b c)
  unfolding square_after is_granted WinnerIs entry_by
  square_entry (asked a) e win b c l = rw e
  square_entry (granted w) e win b c l =
      rw (e, row_at b l, win.0) (row_entry (row_of q b) (waits o.state b) w c (omega (arith, rows b l, win.1)))
  square_entry (released a) e win b c l = rw e

  square_long : (b : ℕ) → b < 64 → length (row_of (square_after q o) b) ≡ 64
  unfolding square_after
  square_long b l = by_case (is_grant o)
    where
      by_case : (v : Bool) → length (row_of (cond v (tabulate 64 (rows_after q o.state.waiting o.winner)) q) b) ≡ 64
      by_case true = rw (row_at b l) (row_long (row_of q b) (waits o.state b) o.winner ∙ rows b l)
      by_case false = rows b l

-- ---- one event

-- what a done event is to the figures
record Kind (s : RackState) (letter a : ℕ) (o : Outcome) (x : Happening) : Type 0 where
  effect : Effect s x o
  winner : WinnerIs x o
  figures : (b : ℕ) (v : Bool) (f : Figures) → figures_after letter a o.winner v b f ≡ figures_by x v b f

abbrev after : Ledger → ℕ → ℕ → Outcome → Happening → Ledger
after g letter a o x =
    record { state = o.state; tally = tally_after g.tally letter a o; square = square_after g.square o; past = x ∷ g.past }

true_more : (g : Ledger) (letter a : ℕ) (o : Outcome) (x : Happening) → Kind g.state letter a o x → Follows x g.past → True g → True (after g letter a o x)
true_more g letter a o x kind follows t =
    let flag : (b : ℕ) → b < 64 → waits o.state b ≡ flag_after x (pending b g.past) b =
    λ b l. kind.effect.flags b ∙ ap (λ (v : Bool). flag_after x v b) (t.waiting b l)
    in
    record {
      events = omega (arith, t.events);
      cards = λ b l. tabulate_at 64 (card_after g.tally.cards letter a o.winner o.state.waiting) b no_figures l
          ∙ kind.figures b (waits o.state b) (figures_of g.tally b)
          ∙ (λ i. figures_by x (flag b l i) b (t.cards b l i)) ∙ figures_more x g.past b follows;
      waiting = λ b l. flag b l ∙ pending_more x g.past b;
      entries = λ b c l m. square_entry g.square o t.rows x kind.effect.grant kind.winner b c l
          ∙ (λ i. entry_by x (flag b l i) c (t.entries b c l m i)) ∙ entry_more x g.past b c;
      rows = square_long g.square o t.rows;
      sound = sound_more x g.past follows t.sound;
    }

-- by the letter
module _ (g : Ledger) (letter a : ℕ) (t : True g) where
  abbrev s : RackState
  s = g.state

  true_asked : eqb letter 81 ≡ true → (request_of s a).answer ≡ 0 → True (after g letter a (request_of s a) (asked a))
  unfolding WinnerIs figures_after figures_by asked_figures Follows
  true_asked u h =
      true_more g letter a (request_of s a) (asked a) (record { effect = asked_effect s a h; winner = tt; figures = λ b v f. rw u })
      (sym (t.waiting a (asked_below s a h)) ∙ asked_new s a h) t

  true_granted : eqb letter 81 ≡ false → eqb letter 65 ≡ true → (arbitrate_of s).answer ≡ 0 → True (after g letter a (arbitrate_of s) (granted (arbitrate_of s).winner))
  unfolding WinnerIs figures_after figures_by granted_figures Follows
  true_granted u v h =
      let below = (granted-known s h).winner_won.below in
      true_more g letter a (arbitrate_of s) (granted (arbitrate_of s).winner)
      (record { effect = granted_effect s h; winner = (refl, below); figures = λ b w f. rw (u, v) })
      (sym (t.waiting _ below) ∙ granted_waited s h) t

  true_released : eqb letter 81 ≡ false → eqb letter 65 ≡ false → eqb letter 82 ≡ true → (release_of s a).answer ≡ 0
      → True (after g letter a (release_of s a) (released a))
  unfolding WinnerIs figures_after figures_by Follows
  true_released u v w h =
      true_more g letter a (release_of s a) (released a) (record { effect = released_effect s a h; winner = tt; figures = λ b x f. rw (u, v, w) }) tt t

  true_done : (event_of s letter a).answer ≡ 0 → True (after g letter a (event_of s letter a) (happened letter a (event_of s letter a)))
  unfolding event_of
  true_done h = by_case (eqb letter 81) (eqb letter 65) (eqb letter 82) refl refl refl h
    where
      event : Bool → Bool → Bool → Outcome
      event p q r = cond p (request_of s a) (cond q (arbitrate_of s) (cond r (release_of s a) (answered s 18)))

      what : Bool → Bool → Bool → Outcome → Happening
      what p q r o = cond p (asked a) (cond q (granted o.winner) (cond r (released a) (released a)))

      by_case : (p q r : Bool) → eqb letter 81 ≡ p → eqb letter 65 ≡ q → eqb letter 82 ≡ r → (event p q r).answer ≡ 0
          → True (after g letter a (event p q r) (what p q r (event p q r)))
      by_case true q r u v w done = true_asked u done
      by_case false true r u v w done = true_granted u v done
      by_case false false true u v w done = true_released u v w done
      by_case false false false u v w done = let none : ◌≡◌ {A = ℕ} 18 0 = done in absurd (omega arith)

  answer : ℕ
  answer = counted_answer g.tally g.square (event_of s letter a).answer

  next-done : eqb answer 0 ≡ true → True (next g letter a)
  unfolding next counted_of counted_by answer
  next-done e =
      let done : (event_of s letter a).answer ≡ 0 = (counts g.tally g.square _ (eqb-true answer 0 e)).done in
      rw (e, eq-eqb _ 0 done) (true_done done)

  next_refused : eqb answer 0 ≡ false → True (next g letter a)
  unfolding next counted_of counted_by square_after answer
  next_refused e = rw (e, e) t

  pub true_next : True (next g letter a)
  true_next = by_case (eqb answer 0) refl
    where
      by_case : (v : Bool) → eqb answer 0 ≡ v → True (next g letter a)
      by_case true e = next-done e
      by_case false e = next_refused e

pub true_run : (g : Ledger) (es : List Event) → True g → True (run g es)
unfolding run
true_run g [] t = t
true_run g (e ∷ es) t = true_run (next g e.letter e.number) es (true_next g e.letter e.number t)

-- ---- what holds after any events

-- what 41 tests holds of figures that agree with a history
pub true_good : (g : Ledger) → True g → tally_good g.tally g.square ≡ true
unfolding tally_good
true_good g known =
    rw (
      all_each 64 (card_good g.tally) (λ b l. rw (known.events, known.cards b l) (figures_pass b g.past known.sound)),
      all_each 64 (row_good g.tally.events g.square) (λ b l. all_each 64 (entry_good g.tally.events (row_of g.square b)) (λ c m.
          le-leb (entry_of g.square b c) g.tally.events (omega (arith, known.events, known.entries b c l m, left_at_most b c g.past)))),
    )

module _ (t : Table) (es : List Event) where
  pub true_now : True (run (start t) es)
  true_now = true_run (start t) es (true_start t)

  pub stays_good : tally_good (run (start t) es).tally (run (start t) es).square ≡ true
  stays_good = true_good (run (start t) es) true_now
