-- `walk::beyond` meets its contract.
use mathlib.Core.Path.{sym, ◌∙◌}
use native.Mathlib.Omega.{arith}
use borrow.Author.Tests.{eq-eqb}
use Rattle.window.proofs.Loops.{beyond-none, beyond-some}
use Rattle.walk.proofs.beyond.Goals as goal

pub returns-then-count-eq0 : goal.returns-then-count-eq0
returns-then-count-eq0 c = eq-eqb _ 0 (omega (arith, c.if-count-eq0.true)) ∙ sym (beyond-none _ _ _ (omega (arith, c.if-count-eq0.true)))

pub returns-else-count-eq0 : goal.returns-else-count-eq0
returns-else-count-eq0 c = rw c.side.ensures.is (sym (beyond-some _ _ _ c.if-count-eq0.false))
