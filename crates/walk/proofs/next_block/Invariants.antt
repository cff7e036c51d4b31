-- `walk::next_block` meets its contract. The invariant is `Walking`, the measure what is left to go in pixels and ends of rows.
use Rattle.window.proofs.Loops.{Walking, left}
use Rattle.walk.proofs.next_block.Given as goal

abbrev pub invariant-loop-col : goal.invariant-loop-col
invariant-loop-col l = Walking l.window l.top (l.initial.row, l.initial.col) (l.row, l.col)

abbrev pub decreases-loop-col : goal.decreases-loop-col
decreases-loop-col l = left l.window (l.row, l.col)
