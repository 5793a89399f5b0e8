-- What the entry for C that gives a file's table answers and leaves in the lent buffer, for every input. Assumes nothing.
use Rattle.std.specs.Prelude.{ℕ, cond, List, ◌∷◌, ◌++◌, ◌≡◌, leb, eqb, length, drop}
use Rattle.cardfile.specs.Format.{load_table_of}
use Rattle.cardfile.specs.LoadedTable.{LoadedTable}
use Rattle.cards.specs.declared.Table.{Table}

-- k, the rule and the 64 slots by number: 66 bytes
unfoldable pub table_bytes : Table → List ℕ
table_bytes t = t.k ∷ t.rule ∷ t.slots

-- the refusal of the load, 1 to 7; or then 8 for a buffer under 66 bytes; or 0
unfoldable pub table_answer : LoadedTable → ℕ → ℕ
table_answer loaded room = cond (eqb loaded.answer 0) (cond (leb 66 room) 0 8) loaded.answer

-- the table at the front and nothing beyond; a refusal writes nothing
unfoldable pub table_left : ℕ → Table → List ℕ → List ℕ
table_left answer t buffer = cond (eqb answer 0) (table_bytes t ++ drop 66 buffer) buffer

pub record GivesTable (file buffer : List ℕ) (r : ℕ) (last : List ℕ) : Type 0 where
  pub result : r ≡ table_answer (load_table_of file) (length buffer)
  pub left : last ≡ table_left (table_answer (load_table_of file) (length buffer)) (load_table_of file).table buffer
