-- `cardfile::reading::read_cards` meets its contract: by the test of the cards. Assumes nothing.
use Rattle.std.proofs.Common.{sym, ◌∙◌}
use Rattle.cardfile.proofs.reading.read_cards.Goals as goal
use Rattle.cardfile.specs.Format.{refuse_unless, refused_with, cards_of}

pub returns-then-not-good : goal.returns-then-not-good
unfolding cards_of refuse_unless refused_with
returns-then-not-good c = rw (sym c.good.ensures ∙ c.if-not-good.true)

pub returns : goal.returns
unfolding cards_of refuse_unless
returns c = rw (sym c.good.ensures ∙ c.if-not-good.false, c.slots.ensures)
