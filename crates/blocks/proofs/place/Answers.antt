-- `blocks::place` meets its contract: a place is below 4 ^ 12.
use Prim.Native.Nat.{◌*◌, ◌^◌, ◌<◌}
use native.Mathlib.Omega.{arith}
use Rattle.key.specs.Spread.{spread}
use Rattle.key.proofs.Loops.{spread-lt, place_is}
use Rattle.blocks.proofs.place.Goals as goal
use Rattle.blocks.proofs.place.Goals.{Start}

small : (s : Start) → (3 * spread 4 s.args.row < 4 ^ 12) × (3 * spread 4 s.args.col < 4 ^ 12)
small s = (spread-lt 3 12 s.args.row s.requires.row, spread-lt 3 12 s.args.col s.requires.col)

pub overflow_mul-result : goal.overflow_mul-result
overflow_mul-result c = omega (arith, small c.before)

pub overflow_add-result : goal.overflow_add-result
overflow_add-result c = omega (arith, small c.before.before)

pub returns : goal.returns
returns c = let s = c.before.before in omega (arith, place_is s.args.row s.args.col)
