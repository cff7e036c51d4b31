-- `openings::next_opening` meets its contract. The invariant is `Looking`.
use Rattle.openings.proofs.Looking.{Looking}
use Rattle.openings.proofs.next_opening.Given as goal

abbrev pub invariant-loop-block : goal.invariant-loop-block
invariant-loop-block l = Looking l.m l.top l.keys l.window l.initial.at l.initial.border l.at l.border l.ahead
