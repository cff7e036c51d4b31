-- `overlay::put_class` meets its contract. The invariant is `Joining`, the measure the number of places left.
use Prim.Native.Nat.{◌-◌}
use Rattle.pieces.specs.Pair.{class_over_map}
use Rattle.overlay.proofs.Joins.{Joining}
use Rattle.overlay.proofs.put_class.Given as goal

abbrev pub invariant-loop-stand : goal.invariant-loop-stand
invariant-loop-stand l =
    Joining (class_over_map l.m l.keys l.classes l.base l.beneath) l.class l.m l.keys l.base l.initial.stand.place l.end l.n l.initial.out l.out l.stand l.from l.k

abbrev pub decreases-loop-stand : goal.decreases-loop-stand
decreases-loop-stand l = l.end - l.stand.place
