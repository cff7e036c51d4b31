-- `text::put_numbers` meets its contract. The invariant: the numbers so far are put, and the next goes to `at`.
use lib.ListN.{drop}
use Rattle.text.specs.Text.{spaced}
use Rattle.text.proofs.Telling.{Telling}
use Rattle.text.proofs.put_numbers.Given as goal

abbrev pub invariant-loop-x : goal.invariant-loop-x
invariant-loop-x l = Telling (spaced l.numbers) (spaced (drop l.x-index l.numbers)) l.at l.initial.out l.out
