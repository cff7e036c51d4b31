-- `stretch::next_block` meets its contract: the largest block that may come next is the first of the stretch.
use Rattle.std.proofs.Common.{arith}
use Rattle.key.proofs.Laws.{pow-most}
use Rattle.stretch.proofs.Walk.{lays-top, lays-next}
use Rattle.stretch.proofs.next_block.Goals as goal

pub largest-i-requires : goal.largest-i-requires
largest-i-requires c = omega (arith, pow-most 3 _ c.requires.0)

pub key_here-key-requires : goal.key_here-key-requires
key_here-key-requires c = let p = c.requires in (p.0, p.1, omega arith, lays-top p.1 p.2 c.largest-i.ensures)

pub returns : goal.returns
returns c = lays-next c.requires.1 c.requires.2 c.largest-i.ensures c.key_here-key.ensures c.advance-behind.ensures.0 c.advance-behind.ensures.1
