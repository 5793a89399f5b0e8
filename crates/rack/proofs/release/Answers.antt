-- `rack::release` meets its contract: a refused one leaves the state that it was given. Assumes nothing.
use Rattle.std.proofs.Common.{rules}
use Rattle.rack.proofs.Refusals.{release_refused}
use Rattle.rack.proofs.release.Goals as goal

pub returns-in_err-reported : goal.returns-in_err-reported
returns-in_err-reported c = search (rules, release_refused c.args.s c.release_in.new.s c.args.a)
