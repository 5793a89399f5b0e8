-- `rack::request` meets its contract: a refused one leaves the state that it was given. Assumes nothing.
use Rattle.std.proofs.Common.{rules}
use Rattle.rack.proofs.Refusals.{request_refused}
use Rattle.rack.proofs.request.Goals as goal

pub returns-in_err-reported : goal.returns-in_err-reported
returns-in_err-reported c = search (rules, request_refused c.args.s c.request_in.new.s c.args.a)
