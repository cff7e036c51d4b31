-- `many::put_lines` meets its contract. The invariant is `Telling`.
use Rattle.many.proofs.Loops.{Telling}
use Rattle.many.proofs.put_lines.Given as goal

abbrev pub invariant-loop-i : goal.invariant-loop-i
invariant-loop-i l = Telling l.m l.keys l.windows l.initial.border l.initial.out l.border l.out l.i
