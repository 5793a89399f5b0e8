-- `arbiter::arbitration::won` meets its contract: by whether a loser's count is full, and what each part of the state becomes. Assumes nothing.
use Rattle.std.proofs.Common.{sym, ◌∙◌}
use Rattle.arbiter.proofs.Laws.{full_lem, counts_grown_lem}
use Rattle.arbiter.proofs.arbitration.won.Goals as goal
use Rattle.arbiter.specs.Arbitrate.{batch_now, inhibited_now, granted, won_by}

pub returns-then-some_loser_full : goal.returns-then-some_loser_full
unfolding won_by
returns-then-some_loser_full c =
    rw (full_lem c.args.s.now c.args.w c.requires.0.1.0 ∙ sym c.some_loser_full.ensures ∙ c.if-some_loser_full.true)

pub returns : goal.returns
unfolding granted batch_now inhibited_now won_by
returns c =
    let room = full_lem c.args.s.now c.args.w c.requires.0.1.0 ∙ sym c.some_loser_full.ensures ∙ c.if-some_loser_full.false in
    let grown = rw c.from-i.ensures at c.grow_counts.ensures in
    let counted = grown ∙ counts_grown_lem c.args.s.now c.args.w room c.requires.0.1.0 in
    rw room cc
