-- `lines::put_classes` meets its contract. The invariant: the lines of the classes below `class` are put.
use lib.ListN.{drop}
use Rattle.text.proofs.Laws.{Telling}
use Rattle.lines.specs.Lines.{class_lines}
use Rattle.lines.proofs.put_classes.Given as goal

abbrev pub invariant-loop-class : goal.invariant-loop-class
invariant-loop-class l = Telling (class_lines 0 l.totals) (class_lines l.class (drop l.class l.totals)) l.at l.initial.out l.out
