-- `rules::look::look_down` meets its contract: the numbers come down from n - 1 to low. Assumes nothing.
use Rattle.std.proofs.Common.{rules, tests, ◌≡◌}
use Rattle.std.proofs.lemmas.Iterator.Search.{find_from_yields_List}
use Rattle.rules.proofs.Down.{goes_down, found_down}
use Rattle.rules.proofs.look.look_down.Goals as goal
use Rattle.rules.specs.Marks.{is_in}

pub returns : goal.returns
returns c =
    let found =
    find_from_yields_List (is_in c.args.cards.now) _ _ c.find.result c.find.ensures.ran
    (goes_down c.args.low c.args.n c.rev.result (cc) (cc)) (λ x b q k. search (rules, tests)) in
    let down = found_down (is_in c.args.cards.now) c.args.low c.args.n c.find.result found in
    let same : c.map.result ≡ c.find.result = search rules in
    record { first = rw same down.0; within = rw same down.1 }
