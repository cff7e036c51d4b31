-- `text::span` meets its contract, by the invariant beside this.
use mathlib.Core.Path.{ap}
use native.Mathlib.Omega.{arith}
use lib.ListN.{length}
use Rattle.text.proofs.Digits.{spaced-none, span-next}
use Rattle.text.proofs.span.Goals as goal

pub returns-then-most-total : goal.returns-then-most-total
returns-then-most-total c =
    omega (arith, c.loop-x.invariant.0, c.width-n.ensures, c.if-most-total.true, span-next c.args.numbers.now c.loop-x.x-index c.loop-x-test.true)

pub loop-x-preserved : goal.loop-x-preserved
loop-x-preserved c =
    omega (arith, c.loop-x.invariant.0, c.width-n.ensures, c.if-most-total.false, span-next c.args.numbers.now c.loop-x.x-index c.loop-x-test.true)

pub returns : goal.returns
returns c =
    let none = ap length (spaced-none c.args.numbers.now c.loop-x.x-index c.loop-x-test.false) in
    omega (arith, c.loop-x.invariant.0)
