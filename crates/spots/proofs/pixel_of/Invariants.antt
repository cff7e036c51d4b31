-- `spots::pixel_of` meets its contract. The invariant is `Digits`: those above the k that are left are read.
use Rattle.std.proofs.Common.{◌-◌}
use Rattle.key.proofs.Loops.{Digits}
use Rattle.spots.proofs.pixel_of.Given as goal

abbrev pub invariant-loop-k : goal.invariant-loop-k
invariant-loop-k l = Digits l.m l.place (l.m - l.k) l.key
