-- `blocks::pow4` meets its contract: nothing is shifted out.
use mathlib.Core.Path.{◌∙◌}
use native.Mathlib.Nat.{one-mul}
use native.Mathlib.Omega.{arith}
use lib.Dec.{lit<}
use lib.Pow.{shl_exact}
use Rattle.key.proofs.Laws.{power, four}
use Rattle.blocks.proofs.pow4.Goals as goal

pub returns : goal.returns
returns c = power 3 c.args.k (shl_exact 1 _ 32 (lit< tt) (omega arith) ∙ one-mul _ ∙ four c.args.k) c.requires
