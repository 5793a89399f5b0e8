-- `cardfile::reading::read_parts` meets its contract: by the tests of the header; the layout shows that both parts are within the file.
-- Assumes nothing.
use Rattle.std.proofs.Common.{◌∙◌, length-drop, sym, arith}
use lib.ListN.{length-take}
use native.Mathlib.Nat.{add-sub_cancel_left}
use Rattle.cardfile.proofs.Laws.{layout_known, width_known}
use Rattle.cardfile.proofs.reading.read_parts.Goals as goal
use Rattle.cardfile.specs.Format.{refuse_unless, refused_with, header_read}
use Rattle.cards.proofs.Rest.{rest}

pub returns-then-not-edition_good : goal.returns-then-not-edition_good
unfolding header_read refuse_unless refused_with
returns-then-not-edition_good c = rw (sym c.edition_good.ensures ∙ c.if-not-edition_good.true)

pub returns-then-not-ranges_good : goal.returns-then-not-ranges_good
unfolding header_read refuse_unless refused_with
returns-then-not-ranges_good c =
    rw (sym c.edition_good.ensures ∙ c.if-not-edition_good.false, sym c.ranges_good.ensures ∙ c.if-not-ranges_good.true)

pub returns-then-not-layout_good : goal.returns-then-not-layout_good
unfolding header_read refuse_unless refused_with
returns-then-not-layout_good c =
    rw (
      sym c.edition_good.ensures ∙ c.if-not-edition_good.false,
      sym c.ranges_good.ensures ∙ c.if-not-ranges_good.false,
      sym c.layout_good.ensures ∙ c.if-not-layout_good.true,
    )

pub slice_bounds-directory-end : goal.slice_bounds-directory-end
slice_bounds-directory-end c = omega (arith, layout_known _ _ (sym c.layout_good.ensures ∙ c.if-not-layout_good.false))

pub slice_bounds-records-count : goal.slice_bounds-records-count
slice_bounds-records-count c = omega (arith, layout_known _ _ (sym c.layout_good.ensures ∙ c.if-not-layout_good.false))

pub slice_bounds-records-start : goal.slice_bounds-records-start
slice_bounds-records-start c = omega (arith, layout_known _ _ (sym c.layout_good.ensures ∙ c.if-not-layout_good.false))

pub read_columns-requires : goal.read_columns-requires
read_columns-requires c =
    let known = layout_known _ _ (sym c.layout_good.ensures ∙ c.if-not-layout_good.false) in (
      simp (add-sub_cancel_left, length-take, length-drop) (omega arith),
      simp (rest, length-drop) (omega arith),
      width_known _ (sym c.ranges_good.ensures ∙ c.if-not-ranges_good.false),
    )

pub returns : goal.returns
unfolding header_read refuse_unless
returns c =
    rw (
      sym c.edition_good.ensures ∙ c.if-not-edition_good.false,
      sym c.ranges_good.ensures ∙ c.if-not-ranges_good.false,
      sym c.layout_good.ensures ∙ c.if-not-layout_good.false,
    )
    (rw (add-sub_cancel_left, rest) at c.read_columns.ensures)
