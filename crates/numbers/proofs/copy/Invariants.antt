-- `numbers::copy` meets its contract. The invariant: the cells so far are overwritten by as many of `from`.
use lib.ListN.{take}
use Rattle.answers.proofs.Laws.{Filling}
use Rattle.numbers.proofs.copy.Given as goal

abbrev pub invariant-loop-i : goal.invariant-loop-i
invariant-loop-i l = Filling (take l.i l.from) l.initial.to l.to
