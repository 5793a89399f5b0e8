-- `cardfile::directory::Directory::find_column` meets its contract: `found` is the column among the entries passed. Assumes nothing.
use Rattle.std.proofs.Common.{◌≡◌, refl, sym, ◌∙◌, arith}
use borrow.Author.Tests.{eq-eqb, ne_eqb}
use Rattle.cardfile.proofs.Laws.{column_next}
use Rattle.cardfile.proofs.directory.Directory.find_column.Goals as goal
use Rattle.cardfile.proofs.directory.Directory.find_column.Goals.{then-name-wanted, else-name-wanted}
use Rattle.cardfile.specs.Format.{name_at, column_of}

pub loop-j-init : goal.loop-j-init
unfolding column_of
loop-j-init c = refl

pub loop-j-preserved : goal.loop-j-preserved
loop-j-preserved c =
    let entry = c.entry-entry.ensures in
    let wanted : c.from_le_bytes-wanted.result ≡ name_at c.args.name 0 = omega (arith, c.from_le_bytes-wanted.ensures) in
    let name = rw entry.0 at (rw entry.1 at c.name.ensures) in
    elim c.if-name-wanted.branch [
      | then-name-wanted w ↦ w.found-is ∙ rw (column_next, eq-eqb _ _ (sym name ∙ w.if-name-wanted.true ∙ wanted)) (grind arith)
      | else-name-wanted w ↦ w.found-is ∙ rw (column_next, ne_eqb _ _ (λ same. w.if-name-wanted.false (name ∙ same ∙ sym wanted))) c.loop-j.invariant
    ]
