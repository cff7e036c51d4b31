-- `stretch::put_stretch` meets its contract, by the invariant beside this.
use Rattle.stretch.proofs.Walk.{writing-first, writing-next, writing-last}
use Rattle.stretch.proofs.put_stretch.Goals as goal

pub loop-spot-init : goal.loop-spot-init
loop-spot-init c = writing-first _ c.requires.1

pub loop-spot-preserved : goal.loop-spot-preserved
loop-spot-preserved c = writing-next c.loop-spot.invariant c.next_block-next.ensures c.put.ensures

pub returns : goal.returns
returns c = writing-last c.loop-spot.invariant c.loop-spot-test.false
