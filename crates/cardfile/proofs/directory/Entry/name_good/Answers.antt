-- `cardfile::directory::Entry::name_good` meets its contract: the test of each of the four bytes. Assumes nothing.
use Rattle.std.proofs.Common.{◌∙◌, ◌*◌, arith, rules, tests, drop, take, length-drop}
use native.Mathlib.Nat.{add-sub_cancel_left}
use Rattle.std.proofs.lemmas.Iterator.{YieldsList-from_slice}
use Rattle.std.proofs.lemmas.Iterator.Search.{all_from_yields_List}
use Rattle.std.proofs.lemmas.List.{get_or-drop}
use Rattle.cardfile.proofs.directory.Entry.name_good.Goals as goal
use Rattle.cardfile.specs.Format.{name_byte_good, name_good}
use Rattle.cards.proofs.Chains.{all_of_list}

pub returns : goal.returns
unfolding name_good
returns c =
    let e = c.args.self.now in
    let rest = drop (6 * e.j) e.directory.now in
    all_from_yields_List name_byte_good _ _ _ c.all.ensures.ran (YieldsList-from_slice (take 4 rest) (rw add-sub_cancel_left at c.iter.ensures.rest)) (λ x b q k. search (rules, tests))
    ∙ all_of_list name_byte_good rest 0 4 (omega (arith, length-drop (6 * e.j) e.directory.now))
    ∙ simp get_or-drop
