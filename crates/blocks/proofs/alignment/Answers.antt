-- `blocks::alignment` meets its contract: the machine counts over 16 bits, and the count is cut at m.
use native.Mathlib.Omega.{arith}
use Rattle.key.proofs.Loops.{alignment-counted}
use Rattle.blocks.proofs.alignment.Goals as goal

pub returns : goal.returns
returns c = omega (arith, alignment-counted c.args.m c.args.x (omega arith))
