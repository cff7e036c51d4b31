-- `blocks::bits_apart` meets its contract. Its sums fit, since what is spread of twelve bits is below 4 ^ 12.
use mathlib.Core.Path.{◌≡◌}
use Prim.Native.Nat.{◌+◌, ◌*◌, ◌/◌, ◌%◌, ◌^◌, ◌<◌}
use native.Mathlib.Omega.{arith}
use Rattle.key.specs.Spread.{spread}
use Rattle.key.proofs.Loops.{spread-thrice, spread-lt}
use Rattle.blocks.proofs.bits_apart.Goals as goal
use Rattle.blocks.proofs.bits_apart.Goals.{Start}

thrice : (s : Start) → spread 4 s.args.x ≡ spread 4 (s.args.x % 16) + 256 * spread 4 (s.args.x / 16 % 16) + 65536 * spread 4 (s.args.x / 256)
thrice s = spread-thrice s.args.x

small : (s : Start) → 3 * spread 4 s.args.x < 4 ^ 12
small s = spread-lt 3 12 s.args.x s.requires

pub overflow_mul-result : goal.overflow_mul-result
overflow_mul-result c = let s = c.before.before in omega (arith, thrice s, small s)

pub overflow_add-result : goal.overflow_add-result
overflow_add-result c = let s = c.before.before in omega (arith, thrice s, small s)

pub overflow_mul-result-2 : goal.overflow_mul-result-2
overflow_mul-result-2 c = let s = c.before.before.before in omega (arith, thrice s, small s)

pub overflow_add-result-2 : goal.overflow_add-result-2
overflow_add-result-2 c = let s = c.before.before.before in omega (arith, thrice s, small s)

pub returns : goal.returns
returns c = let s = c.before.before.before in omega (arith, thrice s)
