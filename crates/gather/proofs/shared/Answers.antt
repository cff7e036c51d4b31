-- `gather::shared` meets its contract.
use Rattle.std.proofs.Common.{rules}
use Rattle.totals.proofs.Loops.{shared-is}
use Rattle.gather.proofs.shared.Goals as goal

pub returns : goal.returns
returns c = rw (shared-is c.args.a c.args.n c.args.b c.args.k) (search rules)
