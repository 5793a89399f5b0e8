-- `rack::arbitrate` meets its contract: a refused one leaves the state that it was given. Assumes nothing.
use Rattle.std.proofs.Common.{rules}
use Rattle.rack.proofs.Refusals.{arbitrate_refused}
use Rattle.rack.proofs.arbitrate.Goals as goal

pub returns-in_err-reported : goal.returns-in_err-reported
returns-in_err-reported c = search (rules, arbitrate_refused c.args.s c.arbitrate_in.new.s)
