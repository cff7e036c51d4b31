-- `walk::most_blocks` meets its contract: a window has at most 2 ^ 24 pixels, so nothing overflows.
use mathlib.Core.Path.{sym}
use Prim.Native.Nat.{◌*◌, ◌/◌, ◌≤◌}
use native.Mathlib.Nat.{div-le_self}
use native.Mathlib.Omega.{arith}
use Rattle.window.proofs.Laws.{pixels-most}
use Rattle.window.proofs.Loops.{most-is}
use Rattle.walk.proofs.most_blocks.Goals as goal
use Rattle.walk.proofs.most_blocks.Goals.{After-pow4, Start}

pub overflow_mul-tiles : goal.overflow_mul-tiles
overflow_mul-tiles c = let e = c.before.before in omega (arith, pixels-most e.args.window e.requires.1)

-- no more tiles than pixels
module _ (c : After-pow4) where
  abbrev asked : Start
  asked = c.before.before.before

  few : asked.args.window.w * asked.args.window.h / c.pow4.result ≤ 16777216
  few = omega (arith, div-le_self (asked.args.window.w * asked.args.window.h) c.pow4.result, pixels-most asked.args.window asked.requires.1)

pub overflow_add-result-2 : goal.overflow_add-result-2
overflow_add-result-2 c = omega (arith, few c)

pub overflow_cast-result : goal.overflow_cast-result
overflow_cast-result c = omega (arith, few c)

pub returns : goal.returns
returns c = rw c.pow4.ensures.is (sym (most-is _ _))
