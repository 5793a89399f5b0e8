-- The iterator stands at the line that comes, and the state and the buffer are those of the lines passed. Assumes nothing.
use Rattle.std.proofs.Common.{◌≡◌, length}
use Rattle.arbiter.specs.State.{well_formed}
use Rattle.trace.proofs.Laws.{Going}
use Rattle.trace.proofs.Turns.{Ahead}
use Rattle.trace.proofs.run.Given as goal

abbrev pub invariant-loop-n : goal.invariant-loop-n
invariant-loop-n l =
    record {
      can : (goal.iterator-loop-n).can_next l.n-iterator;
      finite : (goal.iterator-loop-n).is_finite l.n-iterator;
      ahead : Ahead l.n-iterator l.input l.lines (length l.yielded);
      going : Going l.fn.s l.input l.fn.output (length l.yielded) l.state l.output;
      formed : l.formed ≡ well_formed l.state;
    }
