-- `digits::reach_over` meets its contract. The invariant is `Grown`: p is the power of e, and e has not passed the digits that the one key has over the other.
-- The measure is the number of digits left in the picture's keys.
use Prim.Native.Nat.{◌-◌}
use Rattle.key.proofs.Loops.{Grown}
use Rattle.digits.proofs.reach_over.Given as goal

abbrev pub invariant-loop-p : goal.invariant-loop-p
invariant-loop-p l = Grown l.i (l.key - l.own) l.p l.e

abbrev pub decreases-loop-p : goal.decreases-loop-p
decreases-loop-p l = l.m - l.e
