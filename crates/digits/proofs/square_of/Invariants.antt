-- `digits::square_of` meets its contract. The invariant is `Squaring`.
use Rattle.key.proofs.Loops.{Squaring}
use Rattle.digits.proofs.square_of.Given as goal

abbrev pub invariant-loop-k : goal.invariant-loop-k
invariant-loop-k l = Squaring l.m l.key l.rest l.exponent l.row l.col l.k
