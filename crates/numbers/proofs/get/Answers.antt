-- `numbers::get` meets its contract: the library's number of four bytes is theirs.
use native.Mathlib.Omega.{arith}
use Rattle.numbers.proofs.Steps.{number-four}
use Rattle.numbers.proofs.get.Goals as goal

pub returns : goal.returns
returns c = omega (arith, number-four c.args.from.now)
