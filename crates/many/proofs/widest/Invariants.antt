-- `many::widest` meets its contract. The invariant is `Widening`.
use Rattle.many.proofs.Loops.{Widening}
use Rattle.many.proofs.widest.Given as goal

abbrev pub invariant-loop-cells : goal.invariant-loop-cells
invariant-loop-cells l = Widening l.m l.windows l.widest l.cells-index
