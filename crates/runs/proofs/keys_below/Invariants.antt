-- `runs::keys_below` meets its contract. The invariant is `Bracket`, and the measure the number of keys between.
use Prim.Native.Nat.{◌-◌}
use Rattle.map.specs.Runs.{Bracket}
use Rattle.runs.proofs.keys_below.Given as goal

abbrev pub invariant-loop-low : goal.invariant-loop-low
invariant-loop-low l = Bracket l.keys l.x l.low l.high

abbrev pub decreases-loop-low : goal.decreases-loop-low
decreases-loop-low l = l.high - l.low
