-- `stretch::largest` meets its contract: half the position of the highest bit, or `top`.
use Rattle.std.proofs.Common.{refl, arith}
use Rattle.key.proofs.Laws.{leading-most}
use Rattle.stretch.proofs.Walk.{largest-log}
use Rattle.stretch.proofs.largest.Goals as goal

pub overflow_sub-i : goal.overflow_sub-i
overflow_sub-i c = omega (arith, leading-most c.args.places c.requires.0 (omega (arith, c.requires.1)))

pub returns : goal.returns
returns c = omega (arith, largest-log c.args.top c.args.places c.requires.0 (omega (arith, c.requires.1)) refl)
