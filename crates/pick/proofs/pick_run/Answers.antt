-- `pick::pick_run` meets its contract, by the invariant beside this.
use native.Mathlib.Omega.{arith}
use Rattle.pick.proofs.Picking.{picking-first, picking-most, picking-next}
use Rattle.pick.proofs.pick_run.Goals as goal

pub loop-i-init : goal.loop-i-init
loop-i-init c = picking-first

pub pick_around-k-requires : goal.pick_around-k-requires
pick_around-k-requires c =
    let P = c.loop-i.invariant in
    (omega (arith, c.loop-i-test.true, c.requires), omega (arith, c.loop-i-test.true, picking-most P, P.low, c.requires))

pub loop-i-preserved : goal.loop-i-preserved
loop-i-preserved c = picking-next c.loop-i.invariant c.pick_around-k.ensures
