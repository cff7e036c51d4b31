-- `blocks::side` meets its contract.
use mathlib.Core.Path.{◌∙◌}
use native.Mathlib.Nat.{one-mul}
use native.Mathlib.Omega.{arith}
use lib.Dec.{lit<}
use lib.Pow.{shl_exact}
use Rattle.key.proofs.Laws.{power}
use Rattle.blocks.proofs.side.Goals as goal

pub returns : goal.returns
returns c = power 1 c.args.i (shl_exact 1 _ 16 (lit< tt) (omega arith) ∙ one-mul _) c.requires
