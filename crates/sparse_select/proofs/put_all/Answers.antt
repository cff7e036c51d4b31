-- `sparse_select::put_all` meets its contract, by the invariant beside this.
use native.Mathlib.Omega.{arith}
use Rattle.window.proofs.Laws.{inside-12}
use Rattle.sparse_select.specs.Select.{sparse_selection}
use Rattle.sparse_select.proofs.Walking.{walking-first, walking-last, walking-goes, walking-name, walking-next}
use Rattle.sparse_select.proofs.Asking.{asking-block, asking}
use Rattle.sparse_select.proofs.put_all.Goals as goal

pub blocks-block-items-requires : goal.blocks-block-items-requires
blocks-block-items-requires c = let u = c.requires.0 in (omega (arith, u.cap, u.small), inside-12 u.small u.inside)

pub loop-block-init : goal.loop-block-init
loop-block-init c = rw c.into_iter-block-iterator.ensures.into_iter_gives (walking-first _ c.requires.0.inside c.blocks-block-items.ensures _)

pub put_block-n-requires : goal.put_block-n-requires
put_block-n-requires c =
    let S = c.loop-block.invariant in
    let g = c.in-Some.ensures.steps in
    let named = c.block_key-key.ensures in
    (asking _ c.requires.0 c.requires.1 S g named, asking-block c.requires.0 (walking-goes S g) (walking-name S g named))

pub loop-block-preserved : goal.loop-block-preserved
loop-block-preserved c = walking-next c.loop-block.invariant c.in-Some.ensures.steps c.block_key-key.ensures c.put_block-n.ensures

pub returns : goal.returns
unfolding sparse_selection
returns c = walking-last c.loop-block.invariant c.in-None.ensures.steps
