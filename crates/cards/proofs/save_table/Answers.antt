-- `cards::save_table` meets its contract: refused by the two tests, or the head and the cards after it. Assumes nothing.
use Rattle.std.proofs.Common.{ℕ, ◌≤◌, ◌-◌, ◌++◌, List, length, take, drop, refl, sym, ap, ◌∙◌, length-drop, arith}
use borrow.Author.Tests.{lt-leb, le-leb}
use Rattle.cards.proofs.Rest.{rest}
use Rattle.cards.proofs.SavingLaws.{cards_length, saved_room, after_head}
use Rattle.cards.proofs.save_table.Goals as goal
use Rattle.cards.specs.Saving.{card_bytes, head_bytes, saved_of, saved_bytes, saved_length, buffer_after}
use Rattle.cards.specs.Table.{card_count}

pub returns-then-not-table_good : goal.returns-then-not-table_good
unfolding saved_of buffer_after
returns-then-not-table_good c = rw (sym c.table_good.ensures ∙ c.if-not-table_good.true) (refl, refl)

pub returns-then-buf-len : goal.returns-then-buf-len
unfolding saved_of buffer_after
returns-then-buf-len c =
    let none = lt-leb (saved_length c.args.t) (length c.args.buf.now) (omega (arith, c.count_cards-cards.ensures.0, c.if-buf-len.true)) in
    rw (sym c.table_good.ensures ∙ c.if-not-table_good.false, none) (refl, refl)

pub put_cards-requires : goal.put_cards-requires
put_cards-requires c =
    let cards = cards_length c.args.t.slots 64 in
    let kept = c.put_head.auto.buf in
    simp (rest, length-drop) (omega arith)

pub returns : goal.returns
unfolding saved_of buffer_after saved_bytes
returns c =
    let count = c.count_cards-cards.ensures.0 in
    let args = c.args in
    let slots = args.t.slots in
    let first = head_bytes args.t.k args.t.rule (card_count slots 64) in
    let H = c.put_head.new.buf in
    let room : saved_length args.t ≤ length args.buf.now = omega (arith, count, c.if-buf-len.false) in
    rw (sym c.table_good.ensures ∙ c.if-not-table_good.false, le-leb _ _ room) (
      rw count,
      ap (λ (ys : List ℕ). take 24 H ++ (ys ++ drop (length H - 24) (drop 24 H))) c.put_cards.ensures
          ∙ after_head first (card_bytes slots 64) args.buf.now H 24 refl (rw count at c.put_head.ensures)
          ∙ ap (λ (n : ℕ). first ++ card_bytes slots 64 ++ drop n args.buf.now) (saved_room slots),
    )
