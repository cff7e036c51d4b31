-- `walk::floor` meets its contract.
use native.Mathlib.Omega.{arith}
use Rattle.window.proofs.Loops.{floor-shift}
use Rattle.walk.proofs.floor.Goals as goal

pub returns : goal.returns
returns c = floor-shift _ _ (omega arith)
