-- `numbers::put_all` meets its contract. The invariant: the bytes so far are overwritten by those of as many numbers.
use lib.ListN.{take}
use Rattle.answers.proofs.Laws.{Filling}
use Rattle.numbers.specs.Numbers.{bytes_of}
use Rattle.numbers.proofs.put_all.Given as goal

abbrev pub invariant-loop-i : goal.invariant-loop-i
invariant-loop-i l = Filling (bytes_of (take l.i l.list)) l.initial.to l.to
