-- `records::records` meets its contract. The invariant is `CheckedTo`, with what is kept of the place reached, and the measure the number of records left.
use Prim.Native.Nat.{◌-◌}
use lib.ListN.{length}
use Rattle.key.specs.Along.{Stands}
use Rattle.map.proofs.Loops.{CheckedTo}
use Rattle.records.proofs.records.Given as goal

abbrev pub invariant-loop-m : goal.invariant-loop-m
invariant-loop-m l = CheckedTo l.whole l.m l.keys l.spot.place l.n × Stands l.m l.spot

abbrev pub decreases-loop-m : goal.decreases-loop-m
decreases-loop-m l = length l.keys - l.n
