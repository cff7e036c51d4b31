-- `digits::read_digits` meets its contract. The invariant is `Reading`: the digits that are read are the key of a block. The measure is what is left.
use Prim.Native.Nat.{◌*◌, ◌^◌}
use Rattle.key.proofs.Loops.{Reading}
use Rattle.digits.proofs.read_digits.Given as goal

abbrev pub invariant-loop-rest : goal.invariant-loop-rest
invariant-loop-rest l = Reading (l.initial.rest * 5 ^ l.zeros) l.zeros l.k l.rest l.start

abbrev pub decreases-loop-rest : goal.decreases-loop-rest
decreases-loop-rest l = l.rest
