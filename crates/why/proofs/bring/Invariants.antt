-- `why::bring` meets its contract. The invariant is `Bringing`, the measure the number of openings left.
use lib.ListN.{length}
use Rattle.border.specs.Found.{walk_makes, spot}
use Rattle.why.proofs.Bringing.{Bringing}
use Rattle.why.proofs.bring.Given as goal

abbrev pub invariant-loop-opening : goal.invariant-loop-opening
invariant-loop-opening l = Bringing l.m l.keys l.window l.index l.initial.border l.border l.at l.number

abbrev pub decreases-loop-opening : goal.decreases-loop-opening
decreases-loop-opening l = length (walk_makes l.m l.m l.keys l.window l.border (spot l.at))
