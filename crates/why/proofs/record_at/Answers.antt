-- `why::record_at` meets its contract: in a whole map, the keys up to a pixel's end with that of its record.
use native.Mathlib.Omega.{arith}
use Rattle.key.proofs.Laws.{pixel-named, block-lies, pow-most}
use Rattle.map.proofs.Laws.{spaced, keys-rise, pixel-below}
use Rattle.map.proofs.Loops.{between_first}
use Rattle.why.proofs.record_at.Goals as goal

pub overflow_add-behind : goal.overflow_add-behind
overflow_add-behind c =
    let p = c.requires in
    omega (arith, c.pixel_key-behind.ensures, (block-lies (pixel-named _ _ _ p.3)).keys, pow-most 4 c.args.m p.0)

pub keys_below-requires : goal.keys_below-requires
keys_below-requires c = (keys-rise (spaced c.requires.2), between_first _ _)

pub overflow_sub-result : goal.overflow_sub-result
overflow_sub-result c = omega (arith, pixel-below c.requires.2 c.requires.3 (rw c.pixel_key-behind.ensures at c.keys_below.ensures))

pub returns : goal.returns
returns c = omega (arith, pixel-below c.requires.2 c.requires.3 (rw c.pixel_key-behind.ensures at c.keys_below.ensures))
