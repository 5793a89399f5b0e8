-- A load that is done, taken apart: the tests that it passed, the two columns that it found, and the table that it made of them. Assumes nothing.
use Prim.Native.Nat.{ℕ, ◌<◌}
use native.Mathlib.Omega.{arith}
use mathlib.Core.Bool.{Bool, true, false}
use mathlib.Core.List.{List}
use mathlib.Core.Path.{◌≡◌, refl}
use Rattle.std.proofs.Common.{Option, Some, None}
use Rattle.cardfile.specs.Format.{header_of, ranges_good, directory_good, column_of, ANUM, SLOT, cards_good, filled_of}
use Rattle.cardfile.specs.Format.{refuse_unless, refused_with, cards_of, columns_found, columns_read, directory_part, record_part, header_read, load_table_of}
use Rattle.cardfile.specs.LoadedTable.{LoadedTable}

abbrev pub entries_of : List ℕ → List ℕ
entries_of file = directory_part (header_of file) file

abbrev pub records_of : List ℕ → List ℕ
records_of file = record_part (header_of file) file

-- every test was passed, and the table is made of the two columns
pub record Done (file : List ℕ) (l : LoadedTable) : Type 0 where
  pub anum : ℕ
  pub slot : ℕ
  pub ranges : ranges_good (header_of file) ≡ true
  pub entries : directory_good (entries_of file) (header_of file).length (header_of file).columns ≡ true
  pub anum_found : column_of (entries_of file) ANUM (header_of file).columns ≡ Some anum
  pub slot_found : column_of (entries_of file) SLOT (header_of file).columns ≡ Some slot
  pub good : cards_good (records_of file) (header_of file) anum slot ≡ true
  pub its_table : l.table ≡ record {
    k = (header_of file).width;
    rule = (header_of file).rule;
    slots = filled_of (records_of file) (header_of file).length anum slot (header_of file).cards;
  }

module _ (file : List ℕ) where
  passed : (test : Bool) (n : ℕ) (next : LoadedTable) → 0 < n → (refuse_unless test n next).answer ≡ 0
      → (test ≡ true → next.answer ≡ 0 → Done file next) → Done file (refuse_unless test n next)
  unfolding refuse_unless refused_with
  passed true n next some done then = then refl done
  passed false n next some done then = absurd (omega arith)

  columns_done : ranges_good (header_of file) ≡ true → directory_good (entries_of file) (header_of file).length (header_of file).columns ≡ true
      → (anum slot : Option ℕ) → column_of (entries_of file) ANUM (header_of file).columns ≡ anum
      → column_of (entries_of file) SLOT (header_of file).columns ≡ slot
      → (columns_found anum slot (records_of file) (header_of file)).answer ≡ 0
      → Done file (columns_found anum slot (records_of file) (header_of file))
  unfolding columns_found refused_with cards_of
  columns_done ranges entries (Some anum) (Some slot) a-found s-found done =
      passed (cards_good (records_of file) (header_of file) anum slot) 7 _ (omega arith) done
      (λ good _. record {
        anum = anum;
        slot = slot;
        ranges = ranges;
        entries = entries;
        anum_found = a-found;
        slot_found = s-found;
        good = good;
        its_table = refl;
      })
  columns_done ranges entries (Some anum) None a-found s-found done = absurd (omega arith)
  columns_done ranges entries None slot a-found s-found done = absurd (omega arith)

  pub load_done : (load_table_of file).answer ≡ 0 → Done file (load_table_of file)
  unfolding load_table_of header_read columns_read
  load_done done =
      passed _ 1 _ (omega arith) done (λ size done₂.
      passed _ 2 _ (omega arith) done₂ (λ edition done₃.
      passed _ 3 _ (omega arith) done₃ (λ ranges done₄.
      passed _ 4 _ (omega arith) done₄ (λ layout done₅.
      passed _ 5 _ (omega arith) done₅ (λ entries done₆.
      columns_done ranges entries _ _ refl refl done₆)))))
