-- `digits::square_of` meets its contract, by the invariant beside this.
use Rattle.std.proofs.Common.{arith}
use Rattle.key.proofs.Loops.{squaring-first, squaring-zero, squaring-digit, squaring-last}
use Rattle.digits.proofs.square_of.Goals as goal
use Rattle.digits.proofs.square_of.Goals.{then-digit-eq0, else-digit-eq0}

pub loop-k-init : goal.loop-k-init
loop-k-init c = squaring-first _ _

pub loop-k-preserved : goal.loop-k-preserved
loop-k-preserved c = elim c.if-digit-eq0.branch [
  | then-digit-eq0 w ↦ rw (w.exponent-is, w.row-is, w.col-is) (squaring-zero c.loop-k.invariant c.loop-k-test.true w.if-digit-eq0.true)
  | else-digit-eq0 w ↦ rw (w.exponent-is, w.row-is, w.col-is) (squaring-digit c.loop-k.invariant c.loop-k-test.true w.if-digit-eq0.false c.side-side.ensures.is)
]

pub returns : goal.returns
returns c = squaring-last c.loop-k.invariant (omega arith)
