-- The bytes of a table, written to the front of a buffer. Assumes nothing.
use Prim.Native.Nat.{ℕ, ◌≤◌, ◌<◌}
use native.Mathlib.Omega.{arith}
use mathlib.Core.List.{List, [], ◌∷◌, ◌++◌}
use mathlib.Core.Path.{◌≡◌, refl}
use lib.ListN.{length, drop, set}
use borrow.Author.Tests.{eq-eqb, ne_eqb, lt-leb, le-leb}
use borrow.Rule.Slice.PartMut.{put_mid}
use Rattle.cardfile.specs.Format.{load_table_of}
use Rattle.cardfile.specs.LoadedTable.{LoadedTable}
use Rattle.cards.specs.declared.Table.{Table}
use Rattle.laptop.specs.Table.{table_bytes, table_answer, table_left, GivesTable}

-- The two bytes are the width and the rule, and what is behind the slots is as it was
pub table_put : (t : Table) (buffer slots : List ℕ) → length t.slots ≡ 64 → 66 ≤ length buffer → slots ≡ t.slots
    → put_mid 2 64 (set (set buffer 0 t.k) 1 t.rule) slots ≡ table_bytes t ++ drop 66 buffer
unfolding table_bytes
table_put t [] slots long room same = absurd (omega arith)
table_put t (a ∷ []) slots long room same = absurd (omega arith)
table_put t (a ∷ b ∷ behind) slots long room same = rw same refl

-- What the entry answers and leaves: the load's refusal, then that of a short buffer, or the table's bytes
module _ (file buffer : List ℕ) where
  pub table_refused : (loaded : LoadedTable) → loaded ≡ load_table_of file → (loaded.answer ≡ 0 → ⊥) → GivesTable file buffer loaded.answer buffer
  unfolding table_answer table_left
  table_refused loaded load some =
      let refused = ne_eqb _ _ some in
      record { result = rw (← load, refused); left = rw (← load, refused, refused) }

  module _ (good : (load_table_of file).answer ≡ 0) where
    pub table_short : length buffer < 66 → GivesTable file buffer 8 buffer
    unfolding table_answer table_left
    table_short less =
        let done = eq-eqb _ _ good in
        let short = lt-leb 66 (length buffer) less in
        record { result = rw (done, short); left = rw (done, short) }

    pub table_given : (last : List ℕ) → 66 ≤ length buffer → last ≡ table_bytes (load_table_of file).table ++ drop 66 buffer
        → GivesTable file buffer 0 last
    unfolding table_answer table_left
    table_given last room written =
        let done = eq-eqb _ _ good in
        let enough = le-leb 66 (length buffer) room in
        record { result = rw (done, enough); left = rw (done, enough) written }

pub ruleset answers = (table_refused, table_short, table_given)
