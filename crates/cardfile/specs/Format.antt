-- The card table on file, and what a load makes of it, as document 01 has it. Assumes nothing.
use Rattle.std.specs.Prelude.{ℕ, zero, suc, ◌+◌, ◌*◌, ◌-◌, ◌^◌, Bool, not, cond, ◌&&◌, ◌||◌, List, [], ◌∷◌, leb, eqb, length, get_or, take, drop, set, replicate, Option, Some, None}
use Rattle.cardfile.specs.declared.Header.{Header}
use Rattle.cardfile.specs.LoadedTable.{LoadedTable}
use Rattle.cards.specs.Below.{all_below}
use Rattle.cards.specs.Table.{between}

-- Little-endian: the number of two bytes, low byte first
abbrev pub word_of : ℕ → ℕ → ℕ
word_of low high = low + 256 * high

abbrev pub word_at : List ℕ → ℕ → ℕ
word_at s at = word_of (get_or s at 0) (get_or s (at + 1) 0)

-- ---- the header of counts and offsets, 12 bytes

unfoldable pub header_of : List ℕ → Header
header_of s =
    record {
      edition = word_at s 0;
      columns = get_or s 2 0;
      cards = get_or s 3 0;
      width = get_or s 4 0;
      rule = get_or s 5 0;
      directory = word_at s 6;
      records = word_at s 8;
      length = word_at s 10;
    }

-- 2: edition not 1
abbrev pub edition_good : Header → Bool
edition_good h = eqb h.edition 1

-- 3: F, N, k, rule or record length out of range, or N over 2^k - 1
unfoldable pub ranges_good : Header → Bool
ranges_good h =
    between 2 16 h.columns
    && (between 1 63 h.cards && (between 1 6 h.width && (leb h.rule 4 && (between 2 64 h.length && leb h.cards (2 ^ h.width - 1)))))

-- 4: offsets or file length break the layout. The directory is at 12 or later and does not end past the records; these end with the file
unfoldable pub layout_good : Header → ℕ → Bool
layout_good h size =
    leb 12 h.directory && (leb (h.directory + 6 * h.columns) h.records && eqb (h.records + h.cards * h.length) size)

-- ---- the directory, F entries of 6 bytes

-- entry j: a name of four bytes, read as one number; the column's offset in a record; its width
abbrev pub name_at : List ℕ → ℕ → ℕ
name_at d j = word_at d (6 * j) + 65536 * word_at d (6 * j + 2)

abbrev pub offset_at : List ℕ → ℕ → ℕ
offset_at d j = get_or d (6 * j + 4) 0

abbrev pub width_at : List ℕ → ℕ → ℕ
width_at d j = get_or d (6 * j + 5) 0

-- 0-9 and A-Z
unfoldable pub name_byte_good : ℕ → Bool
name_byte_good b = between 48 57 b || between 65 90 b

unfoldable pub name_good : List ℕ → ℕ → Bool
name_good d j = all_below 4 (λ i. name_byte_good (get_or d (6 * j + i) 0))

-- 5, one entry: bad name byte, bad width, column ending past the record
unfoldable pub entry_good : List ℕ → ℕ → ℕ → Bool
entry_good d size j = name_good d j && (between 1 4 (width_at d j) && leb (offset_at d j + width_at d j) size)

-- 5: name twice
unfoldable pub name_is_new : List ℕ → ℕ → Bool
name_is_new d j = all_below j (λ i. not (eqb (name_at d i) (name_at d j)))

-- 5
unfoldable pub directory_good : List ℕ → ℕ → ℕ → Bool
directory_good d size columns = all_below columns (λ j. entry_good d size j && name_is_new d j)

-- 6: absent, or not of width 1. A column is found by its name among the first entries
abbrev pub column_at : List ℕ → ℕ → Option ℕ
column_at d j = cond (eqb (width_at d j) 1) (Some (offset_at d j)) None

unfoldable pub column_of : List ℕ → ℕ → ℕ → Option ℕ
column_of d name zero = None
column_of d name (suc j) = cond (eqb (name_at d j) name) (column_at d j) (column_of d name j)

-- the names of the two columns that are required
abbrev pub ANUM : ℕ
ANUM = name_at (65 ∷ 78 ∷ 85 ∷ 77 ∷ []) 0

abbrev pub SLOT : ℕ
SLOT = name_at (83 ∷ 76 ∷ 79 ∷ 84 ∷ []) 0

-- ---- the records, a part by itself

-- the byte of record j at an offset
abbrev pub value_at : List ℕ → ℕ → ℕ → ℕ → ℕ
value_at records size offset j = get_or records (j * size + offset) 0

-- 7: out of range. Numbers are from 1 to 2^k - 1, and slots from 1 to 63
unfoldable pub column_within : List ℕ → ℕ → ℕ → ℕ → ℕ → Bool
column_within records size offset high cards = all_below cards (λ j. between 1 high (value_at records size offset j))

-- 7: used twice
unfoldable pub value_is_new : List ℕ → ℕ → ℕ → ℕ → Bool
value_is_new records size offset j = all_below j (λ i. not (eqb (value_at records size offset i) (value_at records size offset j)))

unfoldable pub column_distinct : List ℕ → ℕ → ℕ → ℕ → Bool
column_distinct records size offset cards = all_below cards (λ j. value_is_new records size offset j)

-- 7
unfoldable pub cards_good : List ℕ → Header → ℕ → ℕ → Bool
cards_good records h number slot =
    (column_within records h.length number (2 ^ h.width - 1) h.cards && column_within records h.length slot 63 h.cards)
    && (column_distinct records h.length number h.cards && column_distinct records h.length slot h.cards)

-- the slot of each arbitration number, 0 where no card has it
unfoldable pub filled_of : List ℕ → ℕ → ℕ → ℕ → ℕ → List ℕ
filled_of records size number slot zero = replicate 64 0
filled_of records size number slot (suc j) =
    set (filled_of records size number slot j) (value_at records size number j) (value_at records size slot j)

-- ---- the load: the first refusal that fits, or the table

-- a refused load returns its number and the all-zero table
unfoldable pub refused_with : ℕ → LoadedTable
refused_with n = record { answer = n; table = record { k = 0; rule = 0; slots = replicate 64 0 } }

unfoldable pub refuse_unless : Bool → ℕ → LoadedTable → LoadedTable
refuse_unless good n next = cond good next (refused_with n)

-- 7, or the table
unfoldable pub cards_of : List ℕ → Header → ℕ → ℕ → LoadedTable
cards_of records h number slot =
    refuse_unless (cards_good records h number slot) 7
    (record { answer = 0; table = record { k = h.width; rule = h.rule; slots = filled_of records h.length number slot h.cards } })

-- 6, or what the two columns hold
unfoldable pub columns_found : Option ℕ → Option ℕ → List ℕ → Header → LoadedTable
columns_found (Some number) (Some slot) records h = cards_of records h number slot
columns_found (Some number) None records h = refused_with 6
columns_found None c records h = refused_with 6

-- 5 to 7: the record part, with the directory beside it
unfoldable pub columns_read : List ℕ → List ℕ → Header → LoadedTable
columns_read d records h =
    refuse_unless (directory_good d h.length h.columns) 5
    (columns_found (column_of d ANUM h.columns) (column_of d SLOT h.columns) records h)

-- the parts that the header names: the directory, and the records to the end of the file
abbrev pub directory_part : Header → List ℕ → List ℕ
directory_part h file = take (6 * h.columns) (drop h.directory file)

abbrev pub record_part : Header → List ℕ → List ℕ
record_part h file = drop h.records file

-- 2 to 7
unfoldable pub header_read : Header → List ℕ → LoadedTable
header_read h file =
    refuse_unless (edition_good h) 2
    (refuse_unless (ranges_good h) 3
    (refuse_unless (layout_good h (length file)) 4
    (columns_read (directory_part h file) (record_part h file) h)))

-- 1 to 7: file under 12 or over 8,192 bytes comes first
unfoldable pub load_table_of : List ℕ → LoadedTable
load_table_of file = refuse_unless (between 12 8192 (length file)) 1 (header_read (header_of file) file)
