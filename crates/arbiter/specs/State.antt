-- What a state says of each number, and which states are well formed, as documents 01 and 02 have it. Assumes nothing.
use Rattle.std.specs.Prelude.{ℕ, ◌^◌, Bool, true, false, not, ◌&&◌, ◌||◌, List, ltb, eqb, length, get_or, replicate}
use Rattle.state.specs.declared.Bus.{Bus}
use Rattle.state.specs.declared.Bus.TheVariants.{Free, Held, Elected}
use Rattle.state.specs.declared.RackState.{RackState}
use Rattle.cards.specs.Below.{all_below, count_below}
use Rattle.cards.specs.Table.{has_card, in_table, table_good}
use Rattle.cards.specs.declared.Table.{Table}
use Rattle.rules.specs.Marks.{is_in}
use Rattle.rules.specs.Rules.{lines_by, counts_losers, has_batch, inhibits}

-- the card of that number waits
abbrev pub waits : RackState → ℕ → Bool
waits s a = is_in s.waiting a

-- its waiting count
abbrev pub count_of : RackState → ℕ → ℕ
count_of s a = get_or s.counts a 0

-- it is in the batch
abbrev pub in_batch : RackState → ℕ → Bool
in_batch s a = is_in s.batch a

-- it is inhibited
abbrev pub is_inhibited : RackState → ℕ → Bool
is_inhibited s a = is_in s.inhibited a

-- a number that has a card in the state's table
abbrev pub is_card : RackState → ℕ → Bool
is_card s a = has_card s.table.slots a

-- closed to arbitration: a card is elected already
abbrev pub is_closed : Bus → Bool
is_closed Free = false
is_closed (Held h) = false
is_closed (Elected h e) = true

-- held by the card a
abbrev pub is_holder : Bus → ℕ → Bool
is_holder Free a = false
is_holder (Held h) a = eqb h a
is_holder (Elected h e) a = eqb h a

-- the card a is elected to follow the holder
abbrev pub is_elected : Bus → ℕ → Bool
is_elected Free a = false
is_elected (Held h) a = false
is_elected (Elected h e) a = eqb e a

-- the holder and the elected card, if any, are cards of the table; the elected card, or else the holder, is the last winner
abbrev pub holder_ok : List ℕ → ℕ → Bus → Bool
holder_ok slots last Free = true
holder_ok slots last (Held h) = eqb h last && in_table slots h
holder_ok slots last (Elected h e) = in_table slots h && (eqb e last && in_table slots e)

-- the marks that the number a may have: only a card waits; a count is below 2 ^ k, and 0 but for a waiting card under rule 2
unfoldable pub mark_fits : Table → ℕ → Bool → ℕ → Bool
mark_fits t a waits count =
    (not waits || has_card t.slots a) && ltb count (2 ^ t.k) && (eqb count 0 || (waits && counts_losers t.rule))

-- the sets that it may be in: only a waiting card under rule 3 is in the batch, and only a card under rule 4 is inhibited
unfoldable pub sets_fit : Table → ℕ → Bool → Bool → Bool → Bool
sets_fit t a waits batched inhibited =
    (not batched || (waits && has_batch t.rule)) && (not inhibited || (has_card t.slots a && inhibits t.rule))

abbrev pub mark_ok : RackState → ℕ → Bool
mark_ok s a = mark_fits s.table a (waits s a) (count_of s a) && sets_fit s.table a (waits s a) (in_batch s a) (is_inhibited s a)

-- the last winner is a card of the table, or 0 for none yet
abbrev pub last_ok : RackState → Bool
last_ok s = eqb s.last 0 || in_table s.table.slots s.last

abbrev pub bus_ok : RackState → Bool
bus_ok s = holder_ok s.table.slots s.last s.bus

-- how many lines the rule has
abbrev pub lines_of : RackState → ℕ
lines_of s = lines_by s.table.k s.table.rule

-- the lines carry the kept value: it is at most 2 ^ m - 1 on m lines
abbrev pub value_ok : RackState → Bool
value_ok s = ltb s.value (2 ^ lines_of s)

-- how many cards wait, counted
abbrev pub recount : List Bool → ℕ
recount waiting = count_below 64 (is_in waiting)

-- the stored number of waiting cards equals a recount
abbrev pub waiters_ok : RackState → Bool
waiters_ok s = eqb s.waiters (recount s.waiting)

-- each array has its 64 places, as every state of the program has
abbrev pub sized_ok : RackState → Bool
sized_ok s =
    (eqb (length s.waiting) 64 && eqb (length s.counts) 64) && (eqb (length s.batch) 64 && eqb (length s.inhibited) 64)

unfoldable pub well_formed : RackState → Bool
well_formed s = table_good s.table && (sized_ok s && (all_below 64 (mark_ok s) && last_ok s && bus_ok s && value_ok s && waiters_ok s))

-- The next state, by what changes in it.

abbrev pub with_marks : RackState → List Bool → List ℕ → ℕ → RackState
with_marks s waiting counts waiters = record {
  table = s.table;
  waiting = waiting;
  counts = counts;
  batch = s.batch;
  inhibited = s.inhibited;
  last = s.last;
  bus = s.bus;
  value = s.value;
  waiters = waiters;
}

abbrev pub with_sets : RackState → List Bool → List Bool → RackState
with_sets s batch inhibited = record {
  table = s.table;
  waiting = s.waiting;
  counts = s.counts;
  batch = batch;
  inhibited = inhibited;
  last = s.last;
  bus = s.bus;
  value = s.value;
  waiters = s.waiters;
}

abbrev pub with_bus : RackState → ℕ → Bus → RackState
with_bus s last bus = record {
  table = s.table;
  waiting = s.waiting;
  counts = s.counts;
  batch = s.batch;
  inhibited = s.inhibited;
  last = last;
  bus = bus;
  value = s.value;
  waiters = s.waiters;
}

abbrev pub with_value : RackState → ℕ → RackState
with_value s value = record {
  table = s.table;
  waiting = s.waiting;
  counts = s.counts;
  batch = s.batch;
  inhibited = s.inhibited;
  last = s.last;
  bus = s.bus;
  value = value;
  waiters = s.waiters;
}

-- freshly loaded: nobody waits, counts 0, the two sets empty, no last winner, bus free, lines at 0, no card counted as waiting
abbrev pub fresh_of : Table → RackState
fresh_of t = record {
  table = t;
  waiting = replicate 64 false;
  counts = replicate 64 0;
  batch = replicate 64 false;
  inhibited = replicate 64 false;
  last = 0;
  bus = Free;
  value = 0;
  waiters = 0;
}
