-- `exist::seek` meets its contract. The invariant is `Seeking`, the measure the number of openings left.
use lib.ListN.{length}
use Rattle.border.specs.Found.{walk_makes, spot}
use Rattle.exist.proofs.Seeking.{Seeking}
use Rattle.exist.proofs.seek.Given as goal

abbrev pub invariant-loop-opening : goal.invariant-loop-opening
invariant-loop-opening l = Seeking l.m l.keys l.classes l.window l.class l.initial.border l.border l.at l.unseen

abbrev pub decreases-loop-opening : goal.decreases-loop-opening
decreases-loop-opening l = length (walk_makes l.m l.m l.keys l.window l.border (spot l.at))
