-- A state by its parts: the table, the marks of its cards, and the rest. Assumes nothing.
use Rattle.arbiter.specs.declared.parts.Hold.{Hold}
use Rattle.cards.specs.declared.Table.{Table}
use Rattle.rules.specs.Marks.{Marks}
use Rattle.state.specs.declared.RackState.{RackState}

-- the state of these parts
abbrev pub state_of : Table → Marks → Hold → RackState
state_of table m hold = record {
  table = table;
  waiting = m.waiting;
  counts = m.counts;
  batch = m.batch;
  inhibited = m.inhibited;
  last = hold.last;
  bus = hold.bus;
  value = hold.value;
  waiters = hold.waiters;
}

-- what is left of a state beside its table and its marks
abbrev pub hold_of : RackState → Hold
hold_of s = record { last = s.last; bus = s.bus; value = s.value; waiters = s.waiters }
