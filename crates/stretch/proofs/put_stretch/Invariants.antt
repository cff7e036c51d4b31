-- `stretch::put_stretch` meets its contract. The invariant is `Writing`, the measure the number of places left.
use Prim.Native.Nat.{◌-◌}
use Rattle.stretch.proofs.Walk.{Writing}
use Rattle.stretch.proofs.put_stretch.Given as goal

abbrev pub invariant-loop-spot : goal.invariant-loop-spot
invariant-loop-spot l = Writing l.m l.initial.spot.place l.end l.n l.initial.out l.out l.spot l.k

abbrev pub decreases-loop-spot : goal.decreases-loop-spot
decreases-loop-spot l = l.end - l.spot.place
