-- `digits::zeros_of` meets its contract. The invariant is `Ending`.
use Rattle.key.proofs.Loops.{Ending}
use Rattle.digits.proofs.zeros_of.Given as goal

abbrev pub invariant-loop-zeros : goal.invariant-loop-zeros
invariant-loop-zeros l = Ending l.m l.key l.rest l.zeros
