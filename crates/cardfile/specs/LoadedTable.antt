-- What a load answers: 0 with a table, or the number of its refusal with the all-zero table. Assumes nothing.
use Rattle.std.specs.Prelude.{ℕ, Result, Ok, Err, replicate}
use Rattle.cards.specs.declared.Table.{Table}
use Rattle.refusals.specs.Numbers.{number_of}
use Rattle.refusals.specs.declared.Refusal.{Refusal}

pub record LoadedTable : Type 0 where
  pub answer : ℕ
  pub table : Table

-- width 0, rule 0 and no card
abbrev pub zero_table : Table
zero_table = record { k = 0; rule = 0; slots = replicate 64 0 }

abbrev pub as_loaded_table : Result Table Refusal → LoadedTable
as_loaded_table (Ok table) = record { answer = 0; table = table }
as_loaded_table (Err refusal) = record { answer = number_of refusal; table = zero_table }
