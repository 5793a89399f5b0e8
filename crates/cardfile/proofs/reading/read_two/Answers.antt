-- `cardfile::reading::read_two` meets its contract: by which columns were found; a column that was found lies within the record.
-- Assumes nothing.
use Rattle.std.proofs.Common.{sym, ◌∙◌}
use Rattle.cardfile.proofs.Laws.{column_inside}
use Rattle.cardfile.proofs.reading.read_two.Goals as goal
use Rattle.cardfile.specs.Format.{columns_found, refused_with, ANUM, SLOT}

pub returns-in_default : goal.returns-in_default
unfolding columns_found refused_with
returns-in_default c =
    let number = rw c.requires.1 at c.find_column.ensures in
    rw (sym number ∙ c.in_default.is)

pub returns-in_default-find_column : goal.returns-in_default-find_column
unfolding columns_found refused_with
returns-in_default-find_column c =
    let number = rw c.requires.1 at c.find_column.ensures in
    let slot = rw c.requires.1 at c.find_column-2.ensures in
    rw (sym number ∙ c.in-Some.is, sym slot ∙ c.in_default-find_column.is)

pub invariant_of-read_cards : goal.invariant_of-read_cards
invariant_of-read_cards c =
    let known = c.requires in
    let number = rw known.1 at c.find_column.ensures in
    let slot = rw known.1 at c.find_column-2.ensures in
    record {
      inside = (
        column_inside _ ANUM _ _ _ known.0 (sym number ∙ c.in-Some.is),
        column_inside _ SLOT _ _ _ known.0 (sym slot ∙ c.in-Some-find_column.is),
        known.2,
      );
      narrow = known.3;
    }

pub returns : goal.returns
unfolding columns_found
returns c =
    let number = rw c.requires.1 at c.find_column.ensures in
    let slot = rw c.requires.1 at c.find_column-2.ensures in
    rw (sym number ∙ c.in-Some.is, sym slot ∙ c.in-Some-find_column.is) c.read_cards.ensures
