-- `decompose::list_blocks` meets its contract, by the invariant beside this.
use native.Mathlib.Omega.{arith}
use Rattle.window.proofs.Laws.{inside-12}
use Rattle.decompose.proofs.Listing.{listing-first, listing-few, listing-next, listing-last}
use Rattle.decompose.proofs.list_blocks.Goals as goal

pub blocks-block-items-requires : goal.blocks-block-items-requires
blocks-block-items-requires c = (omega (arith, c.requires), inside-12 c.requires.0 c.requires.2)

pub loop-block-init : goal.loop-block-init
loop-block-init c = rw c.into_iter-block-iterator.ensures.into_iter_gives (listing-first c.requires.2 c.blocks-block-items.ensures _)

pub overflow_add-n : goal.overflow_add-n
overflow_add-n c = omega (arith, listing-few c.loop-block.invariant c.in-Some.ensures.steps (inside-12 c.requires.0 c.requires.2))

pub loop-block-preserved : goal.loop-block-preserved
loop-block-preserved c = rw c.put.ensures (listing-next c.loop-block.invariant c.in-Some.ensures.steps c.block_key-key.ensures)

pub returns : goal.returns
returns c = listing-last c.loop-block.invariant c.in-None.ensures.steps
