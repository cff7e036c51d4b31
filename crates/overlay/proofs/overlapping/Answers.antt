-- `overlay::overlapping` meets its contract.
use mathlib.Core.Path.{refl}
use native.Mathlib.Omega.{arith}
use Rattle.key.proofs.Laws.{block-lies, pow-most}
use Rattle.map.proofs.Laws.{keys-rise}
use Rattle.pieces.proofs.Laws.{at_room}
use Rattle.overlay.proofs.Meets.{meets-bracket, meets-order, meets}
use Rattle.overlay.proofs.overlapping.Goals as goal

pub seek-from-requires : goal.seek-from-requires
seek-from-requires c = (c.requires.0, c.requires.2, record { exponent = c.span_of-block.result.exponent; names = c.span_of-block.ensures })

pub pow5-requires : goal.pow5-requires
pow5-requires c = omega (arith, (block-lies c.span_of-block.ensures).small, c.requires.0)

pub overflow_add-beyond : goal.overflow_add-beyond
overflow_add-beyond c = omega (arith, (block-lies c.span_of-block.ensures).keys, pow-most 4 _ c.requires.0, c.pow5.ensures.is)

pub keys_below-requires : goal.keys_below-requires
keys_below-requires c = (keys-rise c.requires.2, rw c.pow5.ensures.is (meets-bracket c.requires.2 c.span_of-block.ensures c.seek-from.ensures))

-- the records that overlap it
pub overflow_sub-count : goal.overflow_sub-count
overflow_sub-count c = omega (arith, meets-order c.requires.2 c.span_of-block.ensures c.seek-from.ensures (rw c.pow5.ensures.is at c.keys_below.ensures))

pub overflow_cast-result : goal.overflow_cast-result
overflow_cast-result c = omega (arith, at_room c.seek-from.ensures, c.requires.1)

pub overflow_cast-result-2 : goal.overflow_cast-result-2
overflow_cast-result-2 c = omega (arith, c.keys_below.ensures.room, c.requires.1)

pub returns : goal.returns
returns c = meets c.requires.2 c.span_of-block.ensures c.seek-from.ensures (rw c.pow5.ensures.is at c.keys_below.ensures) refl refl
