-- `numbers::get_all` meets its contract. The invariant: the cells so far are overwritten by as many numbers.
use Rattle.answers.proofs.Laws.{Filling}
use Rattle.numbers.specs.Numbers.{numbers}
use Rattle.numbers.proofs.get_all.Given as goal

abbrev pub invariant-loop-i : goal.invariant-loop-i
invariant-loop-i l = Filling (numbers l.i l.from) l.initial.cells l.cells
