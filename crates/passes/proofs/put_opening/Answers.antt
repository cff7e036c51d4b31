-- `passes::put_opening` meets its contract.
use mathlib.Core.Path.{sym}
use native.Mathlib.Omega.{arith}
use Rattle.border.proofs.Loops.{entered-late, entered-there}
use Rattle.passes.proofs.put_opening.Goals as goal

pub returns-then-out-at : goal.returns-then-out-at
returns-then-out-at c = sym (entered-late _ _ _ _ _ (omega (arith, c.if-out-at.true)))

pub returns : goal.returns
returns c = entered-there _ _ _ _ _ (omega (arith, c.if-out-at.false))
