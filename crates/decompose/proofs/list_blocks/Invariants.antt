-- `decompose::list_blocks` meets its contract. The invariant is `Listing`: the keys of the blocks that have come are listed.
use Rattle.decompose.proofs.Listing.{Listing}
use Rattle.decompose.proofs.list_blocks.Given as goal

abbrev pub invariant-loop-block : goal.invariant-loop-block
invariant-loop-block l = Listing l.m l.top l.fn.window l.initial.out l.out l.n l.block-iterator
