-- `sums::count` meets its contract. The invariant is `Totalling`, the measure the number of openings left.
use lib.ListN.{length}
use Rattle.border.specs.Found.{walk_makes, spot}
use Rattle.totals.proofs.Loops.{Totalling}
use Rattle.sums.proofs.count.Given as goal

abbrev pub invariant-loop-opening : goal.invariant-loop-opening
invariant-loop-opening l = Totalling l.m l.keys l.classes l.window l.initial.border l.border l.counts l.at

abbrev pub decreases-loop-opening : goal.decreases-loop-opening
decreases-loop-opening l = length (walk_makes l.m l.m l.keys l.window l.border (spot l.at))
