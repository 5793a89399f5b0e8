-- The waiting report of the listing of document 01 is what a ledger comes to through its events. The history is computed by the machine, and the figures
-- from the history; that the ledger has the same is a law, so that no tally and no square of 64 by 64 is computed. Assumes nothing.
use Prim.Native.Nat.{ℕ, ◌<◌}
use native.Mathlib.Omega.{arith}
use mathlib.Core.List.{[], ◌∷◌, map}
use mathlib.Core.Path.{◌≡◌, refl, ◌∙◌}
use lib.ListN.{length}
use Rattle.arbiter.specs.State.{fresh_of}
use Rattle.examples.proofs.Replays.{machine, loading}
use Rattle.examples.specs.KnownRules.{three_cards}
use Rattle.examples.specs.Listing.{file, listing, line as lineOfListing}
use Rattle.examples.specs.Report.{events, past, Row, row, line, report}
use Rattle.promises.proofs.WaitingReport.{figures_of_history, square_of_history, counts_the_run, room_for_events}
use Rattle.rack.specs.Files.{load_of}
use Rattle.report.specs.Report.{line_of}
use Rattle.tally.specs.History.{pending, others_since, waits_of, left_waiting, total, total_squares, History, figures_from}
use Rattle.tally.specs.Ledger.{Ledger, start, run, history_from, history_of}
use Rattle.tally.specs.Tally.{figures_of, entry_of}

pub listing_table : (load_of file).state.table ≡ three_cards 1
unfolding loading three_cards
listing_table = refl

history_replayed : history_of (fresh_of (three_cards 1)) events ≡ past
unfolding machine three_cards history_from events past listing lineOfListing
history_replayed = refl

abbrev ledger : Ledger
ledger = run (start (three_cards 1)) events

-- a card's row, from a history and from a ledger
told : History → ℕ → Row
told h b = row b (line_of (figures_from b h)) (map (λ (c : ℕ). left_waiting b c h) (2 ∷ 5 ∷ 6 ∷ []))

pub counted : Ledger → ℕ → Row
counted g b = row b (line_of (figures_of g.tally b)) (map (λ (c : ℕ). entry_of g.square b c) (2 ∷ 5 ∷ 6 ∷ []))

report_told : map (told past) (2 ∷ 5 ∷ 6 ∷ []) ≡ report
unfolding told past report row line line_of pending others_since waits_of left_waiting total total_squares
report_told = refl

fifteen : length events ≡ 15
unfolding events listing
fifteen = refl

past_is : ledger.past ≡ past
past_is =
    let room = room_for_events (three_cards 1) events in
    (counts_the_run (three_cards 1) events (omega (arith, fifteen, room))).1 ∙ history_replayed

same_row : (b : ℕ) → b < 64 → counted ledger b ≡ told past b
unfolding told counted
same_row b l =
    rw (
      ← past_is,
      figures_of_history (three_cards 1) events b l,
      square_of_history (three_cards 1) events b 2 l (omega arith),
      square_of_history (three_cards 1) events b 5 l (omega arith),
      square_of_history (three_cards 1) events b 6 l (omega arith),
    )

pub report-replayed : map (counted ledger) (2 ∷ 5 ∷ 6 ∷ []) ≡ report
report-replayed = rw (same_row 2 (omega arith), same_row 5 (omega arith), same_row 6 (omega arith)) report_told
