-- `pieces::find` meets its contract, by the invariant beside this.
use native.Mathlib.Omega.{arith}
use Rattle.map.proofs.Laws.{spaced}
use Rattle.window.proofs.Laws.{goes-block, inside-12}
use Rattle.pieces.proofs.Findings.{finding-first, finding-goes, finding-yes, finding-next, finding-no}
use Rattle.pieces.proofs.find.Goals as goal

pub first_stand-at-requires : goal.first_stand-at-requires
first_stand-at-requires c = let p = c.requires.0 in (p.small, p.today, spaced p.under)

pub blocks-block-items-requires : goal.blocks-block-items-requires
blocks-block-items-requires c = (c.requires.0.small, inside-12 c.requires.0.small c.requires.1)

pub loop-block-init : goal.loop-block-init
loop-block-init c =
    rw c.into_iter-block-iterator.ensures.into_iter_gives (finding-first c.requires.1 c.blocks-block-items.ensures, c.first_stand-at.ensures)

pub block_ahead-ahead-requires : goal.block_ahead-ahead-requires
block_ahead-ahead-requires c =
    let p = c.requires.0 in
    let v = c.loop-block.invariant in
    let b = goes-block c.requires.1 (omega arith) (finding-goes c.requires.1 v.0 c.in-Some.ensures.steps) in
    (p.small, p.today, spaced p.under, v.1, b.0, b.1, b.2)

pub returns-then-looked : goal.returns-then-looked
returns-then-looked c =
    let b = c.block_ahead-ahead.ensures in
    finding-yes c.requires.1 c.loop-block.invariant.0 c.in-Some.ensures.steps b.0 b.1 c.look-looked.ensures c.if-looked.true

pub loop-block-preserved : goal.loop-block-preserved
loop-block-preserved c =
    let b = c.block_ahead-ahead.ensures in
    (finding-next c.requires.1 c.loop-block.invariant.0 c.in-Some.ensures.steps b.0 b.1 c.look-looked.ensures c.if-looked.false, b.3)

pub returns : goal.returns
returns c = finding-no c.requires.1 c.loop-block.invariant.0 c.in-None.ensures.steps
