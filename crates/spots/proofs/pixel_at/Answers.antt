-- `spots::pixel_at` meets its contract: the key of the largest block that starts there, and the digits 1 of its exponent, which do not wrap.
use Rattle.std.proofs.Common.{arith}
use Rattle.key.proofs.Loops.{pixel-room}
use Rattle.spots.proofs.pixel_at.Goals as goal

pub overflow_add-result : goal.overflow_add-result
overflow_add-result c = omega (arith, pixel-room c.requires.1 c.requires.2 c.requires.0)
