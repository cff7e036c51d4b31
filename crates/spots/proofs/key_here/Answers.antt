-- `spots::key_here` meets its contract: the key of the pixel there is over that of the block by the digits 1 of its exponent.
use Rattle.std.proofs.Common.{◌≤◌, arith}
use Rattle.key.specs.Key.{ones}
use Rattle.key.specs.Along.{pixel_at}
use Rattle.key.proofs.Loops.{fits-start}
use Rattle.key.proofs.Laws.{fits-key}
use Rattle.spots.proofs.key_here.Goals as goal
use Rattle.spots.proofs.key_here.Goals.{Start}

room : (c : Start) → ones c.args.i ≤ pixel_at c.args.spot
room c = omega (arith, (fits-start c.requires.1 c.requires.2 c.requires.3).2)

pub overflow_sub-result : goal.overflow_sub-result
overflow_sub-result c = omega (arith, c.pixel_at.ensures, c.ones.ensures, room (goal.at.overflow_sub-result c).Start)

pub returns : goal.returns
returns c = (fits-key c.requires.1 c.requires.2).1 (c.requires.3, omega (arith, c.pixel_at.ensures, c.ones.ensures, room (goal.at.returns c).Start))
