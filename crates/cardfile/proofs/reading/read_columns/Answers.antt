-- `cardfile::reading::read_columns` meets its contract: by the test of the directory. Assumes nothing.
use Rattle.std.proofs.Common.{sym, ◌∙◌}
use Rattle.cardfile.proofs.reading.read_columns.Goals as goal
use Rattle.cardfile.specs.Format.{columns_read, refuse_unless, refused_with}

pub returns-then-not-good : goal.returns-then-not-good
unfolding columns_read refuse_unless refused_with
returns-then-not-good c = rw (sym c.good.ensures ∙ c.if-not-good.true)

pub returns : goal.returns
unfolding columns_read refuse_unless
returns c = rw (sym c.good.ensures ∙ c.if-not-good.false) c.read_two.ensures
