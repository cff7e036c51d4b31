-- `exist::look` meets its contract, by the invariant beside this.
use Prim.Native.Nat.{◌+◌, ◌-◌, ◌<◌}
use native.Mathlib.Omega.{arith}
use lib.Seq.{get_or-take, get_or-drop}
use Rattle.exist.proofs.Seeking.{looking-first, looking-next}
use Rattle.exist.proofs.look.Goals as goal

pub loop-here-init : goal.loop-here-init
loop-here-init c = (looking-first _ _, looking-first _ _)

pub loop-here-preserved : goal.loop-here-preserved
loop-here-preserved c =
    let l : c.loop-here.here-index < c.args.run.first + c.args.run.count - c.args.run.first = omega (arith, c.requires, c.loop-here-test.true) in
    rw (get_or-take, get_or-drop) (looking-next _ _ _ c.loop-here.invariant.0, looking-next _ _ _ c.loop-here.invariant.1)
