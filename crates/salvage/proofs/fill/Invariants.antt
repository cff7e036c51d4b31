-- `salvage::fill` meets its contract. The invariant is `Filling`, the measure the number of places left.
use Prim.Native.Nat.{◌-◌}
use Rattle.salvage.specs.Making.{sheet}
use Rattle.salvage.proofs.Filling.{Filling}
use Rattle.salvage.proofs.fill.Given as goal

abbrev pub invariant-loop-now : goal.invariant-loop-now
invariant-loop-now l =
    Filling l.m l.initial.now.spot.place l.end (sheet l.initial.now.records l.initial.now.entries l.initial.mended l.initial.painted l.initial.log)
    (sheet l.now.records l.now.entries l.mended l.painted l.log) l.now.spot

abbrev pub decreases-loop-now : goal.decreases-loop-now
decreases-loop-now l = l.end - l.now.spot.place
