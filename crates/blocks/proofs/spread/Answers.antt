-- `blocks::spread` meets its contract: E is read twice, and fits since there are no more than 13 bits.
use mathlib.Core.Path.{◌≡◌}
use Prim.Native.Nat.{◌+◌, ◌*◌, ◌/◌, ◌%◌, ◌^◌, ◌<◌}
use native.Mathlib.Omega.{arith}
use lib.ListN.{get_or}
use Rattle.key.specs.Spread.{spread, spreads}
use Rattle.key.proofs.Laws.{spread-twice}
use Rattle.key.proofs.Loops.{spread-lt}
use Rattle.blocks.proofs.spread.Goals as goal
use Rattle.blocks.proofs.spread.Goals.{Start}

twice : (c : Start) → spread 5 c.args.x ≡ get_or spreads (c.args.x % 256) 0 + 390625 * get_or spreads (c.args.x / 256) 0
twice c = spread-twice c.args.x (omega arith)

small : (c : Start) → 4 * spread 5 c.args.x < 5 ^ 13
small c = spread-lt 4 13 c.args.x c.requires

pub overflow_mul-result : goal.overflow_mul-result
overflow_mul-result c =
    let k = c.before.before in
    omega (arith, twice k, small k)

pub overflow_add-result : goal.overflow_add-result
overflow_add-result c =
    let k = c.before.before in
    omega (arith, twice k, small k)

pub returns : goal.returns
returns c = omega (arith, twice c.before.before)
