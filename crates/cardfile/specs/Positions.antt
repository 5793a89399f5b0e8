-- What the table of a file is, by the places of the file's bytes alone: each entry of the directory and each record is found by counting from its
-- offset, whatever the record length, the order of the columns and the gaps. No definition of `Format` is used. Assumes nothing.
use Rattle.std.specs.Prelude.{ℕ, ◌+◌, ◌*◌, ◌<◌, List, ◌≢◌, ◌≡◌, get_or}
use Rattle.cards.specs.Table.{card_count}
use Rattle.cards.specs.declared.Table.{Table}

module _ (file : List ℕ) where
  abbrev pub byte_at : ℕ → ℕ
  byte_at place = get_or file place 0

  -- little-endian
  abbrev pub two_bytes_at : ℕ → ℕ
  two_bytes_at place = byte_at place + 256 * byte_at (place + 1)

  -- ---- the header: F at 2, N at 3, k at 4, the rule at 5, the directory offset at 6, the records offset at 8, the record length at 10

  abbrev pub entry_count : ℕ
  entry_count = byte_at 2

  abbrev pub record_count : ℕ
  record_count = byte_at 3

  abbrev pub number_width : ℕ
  number_width = byte_at 4

  abbrev pub rule_number : ℕ
  rule_number = byte_at 5

  -- byte i of entry j of the directory, six bytes each
  abbrev pub of_entry : ℕ → ℕ → ℕ
  of_entry j i = byte_at (two_bytes_at 6 + 6 * j + i)

  -- byte i of record j
  abbrev pub of_record : ℕ → ℕ → ℕ
  of_record j i = byte_at (two_bytes_at 8 + j * two_bytes_at 10 + i)

  -- ---- the table

  -- an entry with a name of these four bytes: its column is of width 1, and at that offset of a record
  pub record HasColumn (a b c d offset : ℕ) : Type 0 where
    pub entry : ℕ
    pub listed : entry < entry_count
    pub first : of_entry entry 0 ≡ a
    pub second : of_entry entry 1 ≡ b
    pub third : of_entry entry 2 ≡ c
    pub fourth : of_entry entry 3 ≡ d
    pub its_offset : of_entry entry 4 ≡ offset
    pub its_width : of_entry entry 5 ≡ 1

  -- the table has a card for each record, with the number under ANUM in the slot under SLOT, and no other
  pub record ReadFrom (t : Table) : Type 0 where
    pub anum : ℕ
    pub slot : ℕ
    pub anum_column : HasColumn 65 78 85 77 anum
    pub slot_column : HasColumn 83 76 79 84 slot
    pub its_k : t.k ≡ number_width
    pub its_rule : t.rule ≡ rule_number
    pub its_cards : (j : ℕ) → j < record_count → get_or t.slots (of_record j anum) 0 ≡ of_record j slot
    pub no_other : (a : ℕ) → ((j : ℕ) → j < record_count → of_record j anum ≢ a) → get_or t.slots a 0 ≡ 0
    pub how_many : card_count t.slots 64 ≡ record_count
