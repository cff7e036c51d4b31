-- `records::along` meets its contract. The invariant is `GoesAlong`, but for its end, and the measure the number of records left.
use Prim.Native.Nat.{◌-◌, ◌≤◌}
use lib.ListN.{length}
use Rattle.key.specs.Along.{Stands}
use Rattle.map.specs.Walk.{Row}
use Rattle.records.proofs.along.Given as goal

abbrev pub invariant-loop-next : goal.invariant-loop-next
invariant-loop-next l = (l.initial.next ≤ l.next) × (l.next ≤ length l.keys) × Stands l.m l.spot × Row l.m l.keys l.initial.next l.initial.spot.place l.next l.spot.place

abbrev pub decreases-loop-next : goal.decreases-loop-next
decreases-loop-next l = length l.keys - l.next
