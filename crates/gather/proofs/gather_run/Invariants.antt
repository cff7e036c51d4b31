-- `gather::gather_run` meets its contract. The invariant is `Adding`, and that the walk through the block stands where record n starts.
use Prim.Native.Nat.{◌+◌}
use Rattle.key.specs.Along.{Stands}
use Rattle.map.proofs.Laws.{Inner}
use Rattle.totals.proofs.Loops.{Adding}
use Rattle.gather.proofs.gather_run.Given as goal

abbrev pub invariant-loop-n : goal.invariant-loop-n
invariant-loop-n l =
    let o = l.fn.opening in
    let end = o.run.first + o.run.count in
    Adding l.m l.keys l.classes l.fn.window o.run.first end l.initial.totals l.totals l.n × Stands o.block.exponent l.spot × Inner l.m l.keys o.key end l.n l.spot.place
