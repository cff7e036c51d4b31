-- `text::width` meets its contract: the number lies between two powers of ten.
use Rattle.text.proofs.Digits.{width_small, width-by-power}
use native.Mathlib.Omega.{arith}
use Rattle.text.proofs.width.Goals as goal

pub returns-then-x-eq0 : goal.returns-then-x-eq0
returns-then-x-eq0 c = omega (arith, width_small c.args.x)

pub returns-else-x-eq0 : goal.returns-else-x-eq0
returns-else-x-eq0 c = omega (arith, width-by-power c.ilog10.result c.args.x c.ilog10.ensures.bound c.ilog10.ensures.power_le c.ilog10.ensures.next_power_gt)
