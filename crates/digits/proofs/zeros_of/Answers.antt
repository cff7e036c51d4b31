-- `digits::zeros_of` meets its contract, by the invariant beside this.
use Rattle.key.proofs.Loops.{ending-next, ending-some}
use Rattle.digits.proofs.zeros_of.Goals as goal

pub returns-then-rest-ne0 : goal.returns-then-rest-ne0
returns-then-rest-ne0 c = ending-some c.loop-zeros.invariant c.if-rest-ne0.true

pub loop-zeros-preserved : goal.loop-zeros-preserved
loop-zeros-preserved c = ending-next c.loop-zeros.invariant c.loop-zeros-test.true c.if-rest-ne0.false
