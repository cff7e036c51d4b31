-- `passes::pass` meets its contract, by the invariant beside this.
use native.Mathlib.Omega.{arith}
use Rattle.border.proofs.Laws.{finds-opens}
use Rattle.border.proofs.Loops.{passing-first, passing-next, passing-few, passing-last}
use Rattle.passes.proofs.pass.Goals as goal

pub loop-opening-init : goal.loop-opening-init
loop-opening-init c = rw c.start-at.ensures (passing-first _ c.requires c.fill.ensures _)

pub overflow_add-openings : goal.overflow_add-openings
overflow_add-openings c =
    let P = c.loop-opening.invariant in
    omega (arith, passing-few P (finds-opens c.requires P.finding c.in-Some.ensures) c.requires)

pub overflow_add-records : goal.overflow_add-records
overflow_add-records c =
    let P = c.loop-opening.invariant in
    omega (arith, passing-few P (finds-opens c.requires P.finding c.in-Some.ensures) c.requires)

pub loop-opening-preserved : goal.loop-opening-preserved
loop-opening-preserved c =
    let P = c.loop-opening.invariant in
    rw c.put_opening.ensures (passing-next P (finds-opens c.requires P.finding c.in-Some.ensures))

pub returns : goal.returns
returns c = passing-last _ c.requires c.fill.ensures c.loop-opening.invariant c.in_default.ensures
