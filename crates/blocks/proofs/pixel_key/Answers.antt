-- `blocks::pixel_key` meets its contract. Its sums fit, since E of a row or a column is below a quarter of 5 ^ 12.
use Prim.Native.Nat.{◌+◌, ◌*◌, ◌^◌, ◌≤◌, ◌<◌}
use native.Mathlib.Omega.{arith}
use Rattle.key.specs.Spread.{spread}
use Rattle.key.specs.Picture.{Pixel}
use Rattle.key.specs.Key.{ones}
use Rattle.key.proofs.Loops.{spread-lt, larger, pixel-key-ones, ones-most}
use Rattle.blocks.proofs.pixel_key.Goals as goal
use Rattle.blocks.proofs.pixel_key.Goals.{Start}

pixel : (c : Start) → Pixel 12 c.args.row c.args.col
pixel c = larger c.requires.0 c.requires.1

small : (c : Start) → (4 * spread 5 c.args.row < 5 ^ 12) × (4 * spread 5 c.args.col < 5 ^ 12)
small c = (spread-lt 4 12 c.args.row (pixel c).row, spread-lt 4 12 c.args.col (pixel c).col)

-- m digits 1 are no more than 5 ^ 12
digits : (c : Start) → 4 * ones c.args.m + 1 ≤ 5 ^ 12
digits c = ones-most c.args.m 12 c.requires.0

pub spread-requires : goal.spread-requires
spread-requires c = omega (arith, pixel c.before)

pub overflow_mul-result : goal.overflow_mul-result
overflow_mul-result c = omega (arith, small c.before.before)

pub overflow_add-result : goal.overflow_add-result
overflow_add-result c =
    let k = c.before.before in
    omega (arith, small k, digits k)

pub spread-requires-2 : goal.spread-requires-2
spread-requires-2 c = omega (arith, pixel c.before.before)

pub overflow_add-result-2 : goal.overflow_add-result-2
overflow_add-result-2 c =
    let k = c.before.before.before in
    omega (arith, small k, digits k)

pub returns : goal.returns
returns c = let s = c.before.before.before in omega (arith, pixel-key-ones s.args.m s.args.row s.args.col)
