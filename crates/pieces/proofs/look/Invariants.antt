-- `pieces::look` meets its contract. The invariant is `Looking`, the measure the number of places left.
use Prim.Native.Nat.{◌-◌}
use Rattle.pieces.specs.Pair.{class_over_map}
use Rattle.pieces.proofs.Sights.{Looking}
use Rattle.pieces.proofs.look.Given as goal

abbrev pub invariant-loop-stand : goal.invariant-loop-stand
invariant-loop-stand l =
    Looking (class_over_map l.m l.keys l.classes l.base l.beneath) l.class l.m l.keys l.base l.initial.stand.place l.end l.stand l.unseen

abbrev pub decreases-loop-stand : goal.decreases-loop-stand
decreases-loop-stand l = l.end - l.stand.place
