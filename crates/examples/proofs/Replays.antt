-- The definitions at work: the listing of document 01 and its known settlings that name a rule are what they give, and the fixed rule is not fair, so
-- that demand 3 is not vacuous. Assumes nothing.
use Prim.Native.Nat.{ℕ, ◌-◌, ◌*◌}
use native.Mathlib.Omega.{arith}
use mathlib.Core.Bool.{true, false}
use mathlib.Core.List.{List, [], ◌∷◌, map}
use mathlib.Core.Path.{◌≡◌, refl}
use lib.ListN.{drop, replicate}
use Rattle.arbiter.specs.Arbitrate as arbitrate
use Rattle.arbiter.specs.Events.{answered_by, request_refusal, release_refusal}
use Rattle.arbiter.specs.State.{count_of, well_formed, mark_fits, sets_fit, fresh_of}
use Rattle.state.specs.declared.Bus.TheVariants.{Free}
use Rattle.state.specs.declared.RackState.{RackState}
use Rattle.cardfile.specs.Format as format
use Rattle.cards.specs.Below as below
use Rattle.cards.specs.Table as table
use Rattle.cards.specs.declared.Table.{Table}
use Rattle.rules.specs.Rules as rules
use Rattle.lines.specs.Known.{row_from, row, known}
use Rattle.lines.specs.Settle as settle
use Rattle.lines.specs.Settling as settling
use Rattle.promises.proofs.Share.{waits_at_grants}
use Rattle.promises.specs.Fairness.{AtMost, AtMostOthers, FairShare, Within, AtMostLower, OthersWithin, ShareBut, ShareOf}
use Rattle.examples.specs.KnownRules.{Ruled, ruled, three_cards, settling_in, played, all_ask, six_again, five_done, known_rules}
use Rattle.examples.specs.LateInhibition.{late_inhibited, late_next, late_after, late_grants, LateWaits}
use Rattle.examples.specs.Listing.{line, Q, A, R, replayed, file, listing}
use Rattle.promises.specs.Runs.{Event, outcome_of, after, grants, times, times_others, cards_of, WaitsThrough, WaitsAtGrants}
use Rattle.rack.specs.Files.{load_of}

-- whoever unfolds this computes with the whole machine
unfoldable pub machine : Type 0
unfolding below.all_below below.any_below below.sum_below below.tabulate below.rows_below
    table.has_card table.in_table table.slot_is_new table.number_good table.slots_good table.table_good
    mark_fits sets_fit well_formed answered_by request_refusal release_refusal
    rules.by_rule rules.lines_by arbitrate.number_of rules.goes_first arbitrate.some_preferred arbitrate.competes
    arbitrate.batch_now arbitrate.inhibited_now arbitrate.competing_below arbitrate.value_now arbitrate.some_loser_full
    arbitrate.losers_counted arbitrate.granted arbitrate.won_by arbitrate.arbitrated arbitrate.arbitrate_refusal arbitrate.event_of
    settle.some_from settle.refusal settle.equal_to
    settling.settled settling.stages settling.changes settling.lines_at settling.stage settling.applied settling.outbid settling.trail
    after grants times times_others WaitsThrough WaitsAtGrants Q A R
machine = Unit

-- and this loads the table
unfoldable pub loading : Type 0
unfolding machine file
    format.header_of format.ranges_good format.layout_good format.name_byte_good format.name_good format.entry_good format.name_is_new format.directory_good
    format.column_of format.column_within format.value_is_new format.column_distinct format.cards_good format.filled_of
    format.refused_with format.refuse_unless format.cards_of format.columns_found format.columns_read format.header_read format.load_table_of
loading = Unit

pub listing_loads : (load_of file).answer ≡ 0
unfolding loading
listing_loads = refl

pub listing-replayed : replayed (load_of file).state listing ≡ listing
unfolding loading replayed listing line
listing-replayed = refl

-- ---- the same table in another layout: gaps before and behind the directory, SLOT before ANUM, a column over ANUM that is passed over, records of four
-- bytes, the cards in another order

pub other_layout : List ℕ
other_layout =
    1 ∷ 0 ∷ 3 ∷ 3 ∷ 3 ∷ 1 ∷ 14 ∷ 0 ∷ 35 ∷ 0 ∷ 4 ∷ 0
    ∷ 7 ∷ 7
    ∷ 83 ∷ 76 ∷ 79 ∷ 84 ∷ 0 ∷ 1
    ∷ 84 ∷ 69 ∷ 77 ∷ 80 ∷ 1 ∷ 2
    ∷ 65 ∷ 78 ∷ 85 ∷ 77 ∷ 2 ∷ 1
    ∷ 7 ∷ 7 ∷ 7
    ∷ 3 ∷ 0 ∷ 6 ∷ 0 ∷ 1 ∷ 0 ∷ 2 ∷ 0 ∷ 2 ∷ 0 ∷ 5 ∷ 0 ∷ []

pub other_layout_loads : format.load_table_of other_layout ≡ format.load_table_of file
unfolding loading other_layout
other_layout_loads = refl

-- ---- the known settlings that name a rule, P8 to P10: playing every row gives the row, and the settlings are the last three of `lines`

pub known_rules_lem : (map played known_rules ≡ known_rules) × (map (λ (r : Ruled). r.settling) known_rules ≡ drop 8 known)
unfolding machine played settling_in three_cards known_rules all_ask six_again five_done ruled row_from row known
known_rules_lem = (refl, refl)

-- ---- under the fixed rule the card 2 waits while the card 6 is granted twice, which breaks each part of demand 3

pub two_cards : ℕ → Table
two_cards rule = record { k = 3; rule = rule; slots = 0 ∷ 0 ∷ 1 ∷ 0 ∷ 0 ∷ 0 ∷ 3 ∷ replicate 57 0 }

pub both_ask : List Event
both_ask = Q 2 ∷ Q 6 ∷ []

pub six_twice : List Event
six_twice = A ∷ R 6 ∷ Q 6 ∷ A ∷ []

two_waits : WaitsThrough 2 (after (fresh_of (two_cards 0)) both_ask) six_twice
unfolding machine two_cards both_ask six_twice
two_waits = (refl, (refl, (refl, (refl, tt))))

two_at_grants : WaitsAtGrants 2 (after (fresh_of (two_cards 0)) both_ask) six_twice
unfolding machine two_cards both_ask six_twice
two_at_grants = (λ _. refl, (λ _. refl, (λ _. refl, (λ _. refl, tt))))

six_at_grants : WaitsAtGrants 6 (after (fresh_of (two_cards 0)) both_ask) six_twice
unfolding machine two_cards both_ask six_twice
six_at_grants = (λ _. refl, (λ none. none, (λ none. none, (λ _. refl, tt))))

pub fixed_not_at_most_once : AtMost 1 0 → ⊥
unfolding machine two_cards both_ask six_twice
fixed_not_at_most_once claim = omega (arith, claim (two_cards 0) refl both_ask six_twice 2 6 (omega arith) two_waits)

pub fixed_not_at_most_others : AtMostOthers 1 0 → ⊥
unfolding machine two_cards both_ask six_twice
fixed_not_at_most_others claim = omega (arith, claim (two_cards 0) refl both_ask six_twice 2 two_waits)

pub fixed_no_fair_share : FairShare 0 → ⊥
unfolding machine two_cards both_ask six_twice
fixed_no_fair_share claim = omega (arith, claim (two_cards 0) refl both_ask six_twice 2 two_at_grants)

pub fixed_not_within_one : Within 1 0 → ⊥
unfolding machine two_cards both_ask six_twice
fixed_not_within_one claim = omega (arith, claim (two_cards 0) refl both_ask six_twice 6 2 six_at_grants two_at_grants)

-- the same events under the two fair rules: card 2 is granted the second time
pub robin_takes_turns : grants (after (fresh_of (two_cards 1)) both_ask) six_twice ≡ 6 ∷ 2 ∷ []
unfolding machine two_cards both_ask six_twice
robin_takes_turns = refl

pub arrival_takes_turns : grants (after (fresh_of (two_cards 2)) both_ask) six_twice ≡ 6 ∷ 2 ∷ []
unfolding machine two_cards both_ask six_twice
arrival_takes_turns = refl

-- ---- the bounds of demand 3 are reached under the two fair rules: while the card 2 waits the card 6 is granted, and no smaller bound will do

pub once_reached : (AtMost 0 1 → ⊥) × (AtMost 0 2 → ⊥)
unfolding machine two_cards both_ask
once_reached = (
  λ claim. omega (arith, claim (two_cards 1) refl both_ask (A ∷ []) 2 6 (omega arith) (refl, tt)),
  λ claim. omega (arith, claim (two_cards 2) refl both_ask (A ∷ []) 2 6 (omega arith) (refl, tt)),
)

pub others_reached : (times_others 2 (grants (after (fresh_of (two_cards 1)) both_ask) (A ∷ [])) ≡ cards_of (fresh_of (two_cards 1)) - 1)
    × (times_others 2 (grants (after (fresh_of (two_cards 2)) both_ask) (A ∷ [])) ≡ cards_of (fresh_of (two_cards 2)) - 1)
unfolding machine two_cards both_ask
others_reached = (refl, refl)

pub within_reached : (Within 0 1 → ⊥) × (Within 0 2 → ⊥)
unfolding machine two_cards both_ask
within_reached = (
  λ claim. omega (arith, claim (two_cards 1) refl both_ask (A ∷ []) 6 2 (λ _. refl, tt) (λ _. refl, tt)),
  λ claim. omega (arith, claim (two_cards 2) refl both_ask (A ∷ []) 6 2 (λ _. refl, tt) (λ _. refl, tt)),
)

-- ---- the bounds of the rules of rebuilt racks are reached, with three cards: each rule has one run, which is computed once, and no smaller bound will do

three_cards_lem : (rule : ℕ) → cards_of (fresh_of (three_cards rule)) ≡ 3
unfolding machine three_cards
three_cards_lem rule = refl

-- under the batch rule the card 2 asks while the card 5 is in a batch: 5 is granted there, and then 6 and 5 in the batch that 2 is in
pub five_in_batch : List Event
five_in_batch = Q 5 ∷ Q 6 ∷ A ∷ Q 2 ∷ []

pub three_others : List Event
three_others = R 6 ∷ A ∷ Q 5 ∷ Q 6 ∷ R 5 ∷ A ∷ Q 6 ∷ R 6 ∷ A ∷ []

abbrev batching : RackState
batching = after (fresh_of (three_cards 3)) five_in_batch

pub batch_grants : grants batching three_others ≡ 5 ∷ 6 ∷ 5 ∷ []
unfolding machine three_cards five_in_batch three_others
batch_grants = refl

two_batched : WaitsThrough 2 batching three_others
unfolding machine three_cards five_in_batch three_others
two_batched = (refl, (refl, (refl, (refl, (refl, (refl, (refl, (refl, (refl, tt)))))))))

five_batched : WaitsAtGrants 5 batching three_others
unfolding machine three_cards five_in_batch three_others
five_batched = (λ _. refl, (λ _. refl, (λ none. none, (λ _. refl, (λ _. refl, (λ _. refl, (λ _. refl, (λ _. refl, (λ _. refl, tt)))))))))

-- under the inhibit rule the card 2 waits inhibited: 6 and 5 are granted, and again when the inhibitions have been cleared
pub two_inhibited : List Event
two_inhibited = Q 2 ∷ A ∷ R 2 ∷ Q 2 ∷ Q 5 ∷ Q 6 ∷ []

pub four_others : List Event
four_others = A ∷ R 6 ∷ A ∷ Q 5 ∷ Q 6 ∷ R 5 ∷ A ∷ R 6 ∷ A ∷ []

abbrev inhibiting : RackState
inhibiting = after (fresh_of (three_cards 4)) two_inhibited

pub inhibit_grants : grants inhibiting four_others ≡ 6 ∷ 5 ∷ 6 ∷ 5 ∷ []
unfolding machine three_cards two_inhibited four_others
inhibit_grants = refl

two_waits_inhibited : WaitsThrough 2 inhibiting four_others
unfolding machine three_cards two_inhibited four_others
two_waits_inhibited = (refl, (refl, (refl, (refl, (refl, (refl, (refl, (refl, (refl, tt)))))))))

five_inhibited : WaitsAtGrants 5 inhibiting four_others
unfolding machine three_cards two_inhibited four_others
five_inhibited = (λ _. refl, (λ _. refl, (λ _. refl, (λ none. none, (λ _. refl, (λ _. refl, (λ _. refl, (λ _. refl, (λ _. refl, tt)))))))))

-- two grants to another card, and two more to it than to the waiting card
pub twice_reached : (AtMost 1 3 → ⊥) × (Within 1 3 → ⊥) × (AtMost 1 4 → ⊥) × (Within 1 4 → ⊥)
unfolding three_cards times
twice_reached = (
  λ claim. omega (arith, rw batch_grants at (claim (three_cards 3) refl five_in_batch three_others 2 5 (omega arith) two_batched)),
  λ claim. omega (
    arith,
    rw batch_grants at (claim (three_cards 3) refl five_in_batch three_others 5 2 five_batched (waits_at_grants 2 three_others batching two_batched)),
  ),
  λ claim. omega (arith, rw inhibit_grants at (claim (three_cards 4) refl two_inhibited four_others 2 5 (omega arith) two_waits_inhibited)),
  λ claim. omega (
    arith,
    rw inhibit_grants at (claim (three_cards 4) refl two_inhibited four_others 5 2 five_inhibited
        (waits_at_grants 2 four_others inhibiting two_waits_inhibited)),
  ),
)

-- 2N - 3 grants to others under the batch rule, and none of so many to the waiting card
pub batch_within_reached : (OthersWithin (λ cards. 2 * cards - 4) 3 → ⊥) × (ShareBut (λ cards. 2 * cards - 4) 3 → ⊥)
    × (ShareOf (λ cards. 2 * cards - 3) 3 → ⊥)
unfolding three_cards times times_others
batch_within_reached =
    let h : WaitsAtGrants 2 batching three_others = waits_at_grants 2 three_others batching two_batched in (
      λ claim. omega (arith, rw (batch_grants, three_cards_lem 3) at (claim (three_cards 3) refl five_in_batch three_others 2 two_batched)),
      λ claim. omega (arith, rw (batch_grants, three_cards_lem 3) at (claim (three_cards 3) refl five_in_batch three_others 2 h)),
      λ claim. omega (arith, rw (batch_grants, three_cards_lem 3) at (claim (three_cards 3) refl five_in_batch three_others 2 h)),
    )

-- 2(N - 1) under the inhibit rule
pub inhibit_within_reached : (OthersWithin (λ cards. 2 * cards - 3) 4 → ⊥) × (ShareBut (λ cards. 2 * cards - 3) 4 → ⊥)
    × (ShareOf (λ cards. 2 * cards - 2) 4 → ⊥)
unfolding three_cards times times_others
inhibit_within_reached =
    let h : WaitsAtGrants 2 inhibiting four_others = waits_at_grants 2 four_others inhibiting two_waits_inhibited in (
      λ claim. omega (arith, rw (inhibit_grants, three_cards_lem 4) at (claim (three_cards 4) refl two_inhibited four_others 2 two_waits_inhibited)),
      λ claim. omega (arith, rw (inhibit_grants, three_cards_lem 4) at (claim (three_cards 4) refl two_inhibited four_others 2 h)),
      λ claim. omega (arith, rw (inhibit_grants, three_cards_lem 4) at (claim (three_cards 4) refl two_inhibited four_others 2 h)),
    )

-- one grant to a card with a lower number: 6 asks again while it holds the bus, and is in no batch, or inhibited, when 2 is granted
pub six_asks_again : List Event
six_asks_again = Q 2 ∷ Q 6 ∷ A ∷ Q 6 ∷ []

pub lower_reached : (AtMostLower 0 3 → ⊥) × (AtMostLower 0 4 → ⊥)
unfolding machine two_cards six_asks_again
lower_reached = (
  λ claim. omega (arith, claim (two_cards 3) refl six_asks_again (R 6 ∷ A ∷ []) 6 2 (omega arith) (refl, (refl, tt))),
  λ claim. omega (arith, claim (two_cards 4) refl six_asks_again (R 6 ∷ A ∷ []) 6 2 (omega arith) (refl, (refl, tt))),
)

-- ---- the fault of document 000: with early election and the inhibition at release, the card 6 is chosen four times while the card 2 waits. 6 is
-- elected while it holds, and so before its release inhibits it.

pub two_behind : List Event
two_behind = Q 2 ∷ A ∷ Q 2 ∷ Q 6 ∷ R 2 ∷ []

pub six_four_times : List Event
six_four_times = A ∷ Q 6 ∷ A ∷ R 6 ∷ Q 6 ∷ R 6 ∷ A ∷ Q 6 ∷ A ∷ []

pub late_inhibition_unfair : (late_grants (late_after (fresh_of (two_cards 4)) two_behind) six_four_times ≡ 6 ∷ 6 ∷ 6 ∷ 6 ∷ [])
    × LateWaits 2 (late_after (fresh_of (two_cards 4)) two_behind) six_four_times
unfolding machine late_inhibited late_next late_after late_grants LateWaits two_cards two_behind six_four_times
late_inhibition_unfair = (refl, (refl, (refl, (refl, (refl, (refl, (refl, (refl, (refl, (refl, tt))))))))))

-- the same events as they are: the card 2 is granted after two grants to the card 6
pub early_inhibition_fair : grants (after (fresh_of (two_cards 4)) two_behind) six_four_times ≡ 6 ∷ 6 ∷ 2 ∷ 6 ∷ []
unfolding machine two_cards two_behind six_four_times
early_inhibition_fair = refl

-- ---- the bound on waiting counts is reached: at P10 the card 2 of the three has seen both others granted, and no smaller bound will do

seen_two : count_of (after (fresh_of (three_cards 2)) five_done) 2 ≡ 2
unfolding machine three_cards five_done six_again all_ask
seen_two = refl

pub counts_reached : count_of (after (fresh_of (three_cards 2)) five_done) 2 ≡ cards_of (fresh_of (three_cards 2)) - 1
counts_reached = omega (arith, seen_two, three_cards_lem 2)

-- refusal 16 is there: a well-formed state that no run comes to, since both cards' counts are 7, has it at an arbitration
pub both_full : RackState
both_full = record {
  table = two_cards 2;
  waiting = false ∷ false ∷ true ∷ false ∷ false ∷ false ∷ true ∷ replicate 57 false;
  counts = 0 ∷ 0 ∷ 7 ∷ 0 ∷ 0 ∷ 0 ∷ 7 ∷ replicate 57 0;
  batch = replicate 64 false;
  inhibited = replicate 64 false;
  last = 0;
  bus = Free;
  value = 0;
  waiters = 2;
}

pub full_refused : (well_formed both_full ≡ true) × ((outcome_of both_full A).answer ≡ 16)
unfolding machine two_cards both_full
full_refused = (refl, refl)
