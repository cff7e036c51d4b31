-- `pieces::tally` meets its contract. The invariant is `Tallying`, the measure the number of places left.
use Prim.Native.Nat.{◌-◌}
use Rattle.pieces.specs.Pair.{class_over_map}
use Rattle.pieces.proofs.Tallies.{Tallying}
use Rattle.pieces.proofs.tally.Given as goal

abbrev pub invariant-loop-stand : goal.invariant-loop-stand
invariant-loop-stand l =
    Tallying (class_over_map l.m l.keys l.classes l.base l.beneath) l.m l.keys l.base l.initial.stand.place l.end l.initial.totals l.totals l.stand

abbrev pub decreases-loop-stand : goal.decreases-loop-stand
decreases-loop-stand l = l.end - l.stand.place
