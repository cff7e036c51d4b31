-- `lines::put_classes` meets its contract, by the invariant beside this.
use native.Mathlib.Omega.{arith}
use lib.ListN.{get_or}
use Rattle.text.proofs.Laws.{telling-first, telling-length, telling-part, telling-last}
use Rattle.lines.specs.Lines.{class_line}
use Rattle.lines.proofs.Turns.{class-next, class-last}
use Rattle.lines.proofs.put_classes.Goals as goal

pub loop-class-init : goal.loop-class-init
loop-class-init c = telling-first _ _ c.requires.1

pub loop-class-preserved : goal.loop-class-preserved
loop-class-preserved c =
    let totals = c.args.totals.now in
    let class = c.loop-class.class in
    telling-part c.loop-class.invariant (class_line class (get_or totals class 0)) _ (class-next totals class c.loop-class-test.true) c.put_class-at.ensures

pub overflow_add-at : goal.overflow_add-at
overflow_add-at c = omega (arith, telling-length (loop-class-preserved c), (loop-class-preserved c).room)

pub returns : goal.returns
returns c = telling-last c.loop-class.invariant (class-last _ c.loop-class.class c.loop-class-test.false)
