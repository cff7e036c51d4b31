-- `salvage::pass` meets its contract. The invariant is `Going`, the measure the number of records and of places left.
use Prim.Native.Nat.{◌+◌, ◌-◌, ◌^◌}
use lib.ListN.{length}
use Rattle.salvage.specs.Making.{sheet, Going}
use Rattle.salvage.proofs.pass.Given as goal

abbrev pub invariant-loop-kept : goal.invariant-loop-kept
invariant-loop-kept l =
    Going l.m l.keys l.classes (sheet 0 0 l.initial.mended l.initial.painted l.initial.log)
    (sheet l.at.now.records l.at.now.entries l.mended l.painted l.log) l.at.now.spot l.at.next

abbrev pub decreases-loop-kept : goal.decreases-loop-kept
decreases-loop-kept l = length l.keys - l.at.next + (4 ^ l.m - l.at.now.spot.place)
