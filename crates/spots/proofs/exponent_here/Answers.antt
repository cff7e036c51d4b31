-- `spots::exponent_here` meets its contract: it is the largest block, or the pixel's key is over its own by the digits 1 of its exponent, and the table tells their number.
use Rattle.std.proofs.Common.{arith}
use Rattle.key.proofs.Loops.{begins-before, begins-over, begins-told}
use Rattle.spots.proofs.exponent_here.Goals as goal

pub returns-then-key-spot : goal.returns-then-key-spot
returns-then-key-spot c = let p = c.requires in rw c.if-key-spot.true (p.1.largest (begins-before p.1 p.2))

pub pixel_at-requires : goal.pixel_at-requires
pixel_at-requires c = let p = c.requires in (p.0, p.1, begins-before p.1 p.2)

pub overflow_sub-over : goal.overflow_sub-over
overflow_sub-over c = let p = c.requires in omega (arith, c.pixel_at.ensures, begins-over p.1 p.2)

pub returns : goal.returns
returns c = let p = c.requires in rw (c.pixel_at.ensures, begins-told p.1 p.2 p.0 c.tables.ensures.digits) p.2.names
