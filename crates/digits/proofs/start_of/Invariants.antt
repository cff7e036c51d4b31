-- `digits::start_of` meets its contract. The invariant is `Starting`.
use Prim.Native.Nat.{◌*◌}
use Rattle.key.proofs.Loops.{Starting}
use Rattle.digits.proofs.start_of.Given as goal

abbrev pub invariant-loop-k : goal.invariant-loop-k
invariant-loop-k l = Starting l.key l.left l.start (2 * l.k)
