-- The table of a file that loads, by the places of the file's bytes: a load reads what document 01's tables say stands there. Assumes nothing.
use Prim.Native.Nat.{ℕ, ◌+◌, ◌*◌, ◌-◌, ◌^◌, ◌≤◌, ◌<◌}
use native.Mathlib.Omega.{arith}
use mathlib.Core.Bool.{Bool, true, false, ◌||◌, and-eq-true_iff}
use mathlib.Core.List.{List}
use mathlib.Core.Path.{◌≡◌, refl, sym, ap, ◌∙◌}
use lib.ListN.{get_or}
use lib.Pow.{pow_mono}
use lib.Seq.{get_or-take, get_or-drop}
use borrow.Author.Tests.{leb-true}
use Rattle.std.proofs.Common.{Some}
use Rattle.cardfile.proofs.Done.{entries_of, records_of, load_done}
use Rattle.cardfile.proofs.Filled.{checked, each_there, none_else, all_counted}
use Rattle.cardfile.proofs.Laws.{column_found, entry_good_lem, same_name, width_known}
use Rattle.cardfile.specs.Format.{word_of, header_of, name_at, name_byte_good, name_good, entry_good, directory_good, value_at, column_of, ANUM, SLOT, load_table_of}
use Rattle.cardfile.specs.Positions.{of_entry, of_record, HasColumn, ReadFrom}
use Rattle.cards.proofs.Below.{all_at}
use Rattle.cards.specs.Table.{between}

-- a byte of a name is a byte
name_byte : (b : ℕ) → name_byte_good b ≡ true → b < 256
unfolding name_byte_good
name_byte b good = go (between 48 57 b) refl good
  where
    go : (t : Bool) → between 48 57 b ≡ t → (t || between 65 90 b) ≡ true → b < 256
    go true digit e = let parts = simp and-eq-true_iff at digit in omega (arith, leb-true)
    go false none letter = let parts = simp and-eq-true_iff at letter in omega (arith, leb-true)

module _ (file : List ℕ) where
  -- byte i of entry j stands at 6 * j + i of the directory
  entry_byte : (j i place : ℕ) → j < (header_of file).columns → i < 6 → place ≡ 6 * j + i → get_or (entries_of file) place 0 ≡ of_entry file j i
  unfolding header_of
  entry_byte j i place listed short e =
      let inside : place < 6 * (header_of file).columns = omega arith in
      rw (get_or-take, get_or-drop) (ap (λ (p : ℕ). get_or file p 0) (omega arith))

  -- and that of record j at j * length + i of the records
  record_byte : (j i : ℕ) → value_at (records_of file) (header_of file).length i j ≡ of_record file j i
  unfolding header_of
  record_byte j i = rw get_or-drop (ap (λ (p : ℕ). get_or file p 0) (omega arith))

  module _ (size : ℕ) (good : directory_good (entries_of file) size (header_of file).columns ≡ true) where
    name_small : (j i : ℕ) → j < (header_of file).columns → i < 4 → of_entry file j i < 256
    unfolding entry_good name_good
    name_small j i listed short =
        let parts = simp and-eq-true_iff at (entry_good_lem (entries_of file) size (header_of file).columns j good listed) in
        let names = parts.0 in
        rw (← entry_byte j i (6 * j + i) listed (omega arith) refl)
        (name_byte _ (all_at 4 (λ (e : ℕ). name_byte_good (get_or (entries_of file) (6 * j + e) 0)) names i short))

    -- a name of four bytes that is found
    module _ (name a b c d : ℕ) (made : name ≡ word_of a b + 65536 * word_of c d) (small : (a < 256) × (b < 256) × (c < 256) × (d < 256)) where
      name_bytes : (j : ℕ) → j < (header_of file).columns → name_at (entries_of file) j ≡ name
          → (of_entry file j 0 ≡ a) × (of_entry file j 1 ≡ b) × (of_entry file j 2 ≡ c) × (of_entry file j 3 ≡ d)
      name_bytes j listed its_name =
          same_name _ _ _ _ a b c d
          (name_small j 0 listed (omega arith))
          (name_small j 1 listed (omega arith))
          (name_small j 2 listed (omega arith))
          (name_small j 3 listed (omega arith))
          small.0
          small.1
          small.2
          small.3
          (omega (
            arith,
            entry_byte j 0 (6 * j) listed (omega arith) (omega arith),
            entry_byte j 1 (6 * j + 1) listed (omega arith) refl,
            entry_byte j 2 (6 * j + 2) listed (omega arith) refl,
            entry_byte j 3 (6 * j + 2 + 1) listed (omega arith) (omega arith),
          ))

      has_column : (offset : ℕ) → column_of (entries_of file) name (header_of file).columns ≡ Some offset → HasColumn file a b c d offset
      unfolding header_of
      has_column offset found =
          let f = column_found (entries_of file) name offset (header_of file).columns found in
          let j = f.entry in
          let bytes = name_bytes j f.listed f.its_name in
          record {
            entry = j;
            listed = f.listed;
            first = bytes.0;
            second = bytes.1;
            third = bytes.2;
            fourth = bytes.3;
            its_offset = sym (entry_byte j 4 (6 * j + 4) f.listed (omega arith) refl) ∙ f.its_offset;
            its_width = sym (entry_byte j 5 (6 * j + 5) f.listed (omega arith) refl) ∙ f.its_width;
          }

-- A load that is done gives the table that stands in the file
pub read_from : (file : List ℕ) → (load_table_of file).answer ≡ 0 → ReadFrom file (load_table_of file).table
unfolding header_of
read_from file done =
    let h = header_of file in
    let d = load_done file done in
    let top = 2 ^ h.width - 1 in
    let small : top ≤ 63 = omega (arith, pow_mono (width_known h d.ranges)) in
    let fine = checked (records_of file) h d.anum d.slot d.good in
    rw d.its_table (record {
      anum = d.anum;
      slot = d.slot;
      anum_column = has_column file h.length d.entries ANUM 65 78 85 77 refl (omega arith) d.anum d.anum_found;
      slot_column = has_column file h.length d.entries SLOT 83 76 79 84 refl (omega arith) d.slot d.slot_found;
      its_k = refl;
      its_rule = refl;
      its_cards = λ j before.
          rw (← record_byte file j d.anum, ← record_byte file j d.slot)
          (each_there (records_of file) h.length d.anum d.slot top h.cards small fine h.cards (omega arith) j before);
      no_other = λ a none.
          none_else (records_of file) h.length d.anum d.slot h.cards a
          (λ j before. rw (record_byte file j d.anum) (none j before));
      how_many = all_counted (records_of file) h.length d.anum d.slot top h.cards small fine h.cards (omega arith);
    })
