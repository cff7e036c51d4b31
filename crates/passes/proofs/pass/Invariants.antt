-- `passes::pass` meets its contract. The invariant is `Passing`, the measure the number of openings left.
use lib.ListN.{length}
use Rattle.border.specs.Found.{walk_makes, spot}
use Rattle.border.proofs.Loops.{Passing}
use Rattle.passes.proofs.pass.Given as goal

abbrev pub invariant-loop-opening : goal.invariant-loop-opening
invariant-loop-opening l = Passing l.m l.top l.keys l.window l.initial.border l.initial.out l.border l.out l.at l.openings l.records

abbrev pub decreases-loop-opening : goal.decreases-loop-opening
decreases-loop-opening l = length (walk_makes l.m l.top l.keys l.window l.border (spot l.at))
