-- What the test of a state goes by: a good table is narrow, and arrays of 64 places have their size. Assumes nothing.
use Prim.Native.Nat.{◌≤◌}
use mathlib.Core.Bool.{true}
use mathlib.Core.Path.{◌≡◌}
use lib.ListN.{length}
use borrow.Author.Tests.{eq-eqb}
use Rattle.arbiter.specs.State.{sized_ok}
use Rattle.cards.proofs.TableKnown.{table_known}
use Rattle.cards.specs.Table.{table_good}
use Rattle.cards.specs.declared.Table.{Table}
use Rattle.state.specs.declared.RackState.{RackState}

pub narrow : (t : Table) → table_good t ≡ true → t.k ≤ 6
narrow t good = (table_known t good).width.1

pub sized : (s : RackState) → length s.waiting ≡ 64 → length s.counts ≡ 64 → length s.batch ≡ 64 → length s.inhibited ≡ 64 → sized_ok s ≡ true
sized s waiting counts batch inhibited = rw (eq-eqb _ _ waiting, eq-eqb _ _ counts, eq-eqb _ _ batch, eq-eqb _ _ inhibited)
