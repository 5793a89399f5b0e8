-- `trace::run` meets its contract: line by line, by the laws of the listing. Assumes nothing.
use Rattle.std.proofs.Common.{◌≡◌, ◌∙◌, sym, [], ◌∷◌, ◌++◌, ◌+◌, ◌*◌, ◌/◌, ◌≤◌, length, length-append, arith}
use native.Mathlib.Nat.{min-le_left}
use Rattle.trace.proofs.Laws.{going_none, going_more, ended_here, all_gone, line_put}
use Rattle.trace.proofs.Turns.{none_taken, taken, all_taken, turned, malformed_is_none}
use Rattle.trace.proofs.run.Goals as goal
use Rattle.trace.specs.Listing.{lines_within}

pub loop-n-init : goal.loop-n-init
loop-n-init c =
    let ahead = none_taken c.zip-n-items.result c.args.input.now c.min-lines.result c.chunks_exact.result
    c.zip-n-items.ensures.first c.zip-n-items.ensures.second c.chunks_exact.ensures.rest c.chunks_exact.ensures.size in
    rw c.into_iter-n-iterator.ensures.into_iter_gives
    (record { can = (tt, omega (arith, ahead.size)); finite = tt; ahead = ahead; going = going_none _ _ _; formed = c.well_formed-formed.ensures })

pub answer_line-outcome-requires : goal.answer_line-outcome-requires
answer_line-outcome-requires c = c.loop-n.invariant.formed

pub line_text-requires : goal.line_text-requires
line_text-requires c =
    let line = taken c.loop-n.n-iterator c.args.input.now _ _ c.loop-n.invariant.ahead c.in-Some.n c.in-Some.line c.next.new.self c.in-Some.ensures.steps in
    omega (arith, line.size)

pub returns-then-is_none : goal.returns-then-is_none
returns-then-is_none c =
    let turn = turned c.loop-n.n-iterator c.args.input.now c.min-lines.result (length c.loop-n.yielded) c.loop-n.state c.in-Some.n c.in-Some.line c.next.new.self
    c.parse-event.result c.answer_line-outcome.new.s c.answer_line-outcome.result c.line_text.result
    c.loop-n.invariant.ahead c.in-Some.ensures.steps c.parse-event.ensures c.answer_line-outcome.ensures (c.line_text.ensures c.answer_line-outcome.new.s) in
    let end = ended_here c.args.s c.args.input.now c.args.output.now _ c.loop-n.state c.loop-n.output c.loop-n.invariant.going _ turn.listed _
    (line_put _ c.in-Some.n _ c.copy_line.new.to c.loop-n.output turn.number c.copy_line.ensures)
    (lines_within c.args.input.now c.args.output.now) (rw c.min-lines.ensures at turn.below) (malformed_is_none _ _ c.is_none.ensures ∙ c.if-is_none.true)
    c.in-Some.n turn.number in
    record { result = end.0; left = end.1 }

pub loop-n-preserved : goal.loop-n-preserved
loop-n-preserved c =
    let turn = turned c.loop-n.n-iterator c.args.input.now c.min-lines.result (length c.loop-n.yielded) c.loop-n.state c.in-Some.n c.in-Some.line c.next.new.self
    c.parse-event.result c.answer_line-outcome.new.s c.answer_line-outcome.result c.line_text.result
    c.loop-n.invariant.ahead c.in-Some.ensures.steps c.parse-event.ensures c.answer_line-outcome.ensures (c.line_text.ensures c.answer_line-outcome.new.s) in
    let next : length (c.loop-n.yielded ++ (c.in-Some.n, c.in-Some.line) ∷ []) ≡ length c.loop-n.yielded + 1 = simp length-append in
    record {
      can = (tt, omega (arith, turn.ahead.size));
      finite = tt;
      ahead = rw next turn.ahead;
      going = rw next
          (going_more c.args.s c.args.input.now c.args.output.now _ c.loop-n.state c.loop-n.output c.loop-n.invariant.going _ turn.listed _
          (line_put _ c.in-Some.n _ c.copy_line.new.to c.loop-n.output turn.number c.copy_line.ensures)
          (malformed_is_none _ _ c.is_none.ensures ∙ c.if-is_none.false));
      formed = c.loop-n.invariant.formed ∙ sym turn.formed;
    }

pub returns : goal.returns
returns c =
    let trace = c.args.input.now in
    let room : 5 * c.min-lines.result ≤ length trace = omega (arith, c.min-lines.ensures, min-le_left (length trace / 5) (length c.args.output.now / 22)) in
    let past = all_taken c.loop-n.n-iterator trace c.min-lines.result _ c.loop-n.invariant.ahead c.next.new.self room c.in-None.ensures.steps in
    let end = all_gone c.args.s trace c.args.output.now _ c.min-lines.result _ c.loop-n.state c.loop-n.output past c.min-lines.ensures c.loop-n.invariant.going in
    record { result = end.0; left = end.1 }
