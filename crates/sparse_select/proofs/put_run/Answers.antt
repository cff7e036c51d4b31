-- `sparse_select::put_run` meets its contract, by the invariant beside this.
use mathlib.Core.Path.{refl}
use native.Mathlib.Omega.{arith}
use Rattle.key.proofs.Laws.{one_block, block-lies, pow-most}
use Rattle.sparse_select.proofs.Merging.{merging-first, merging-record, merging-some, merging-next, merging-few, merging-last}
use Rattle.sparse_select.proofs.put_run.Goals as goal

pub pow4-requires : goal.pow4-requires
pow4-requires c = omega (arith, (block-lies c.span_of-block.ensures).small, c.requires.0.small)

pub overflow_add-end : goal.overflow_add-end
overflow_add-end c = omega (arith, (block-lies c.span_of-block.ensures).span, pow-most 3 c.args.m c.requires.0.small, c.pow4.ensures)

pub loop-i-init : goal.loop-i-init
loop-i-init c =
    let short = (one_block c.requires.1.names c.span_of-block.ensures).0 in
    let g = c.begin-spot.ensures in
    merging-first c.requires.0 c.span_of-block.ensures short _ g.0 g.1 (omega (arith, c.pow4.ensures.is)) refl

pub put_stretch-k-requires : goal.put_stretch-k-requires
put_stretch-k-requires c =
    let S = c.loop-i.invariant in
    let some = merging-some S c.loop-i-test.true c.span_of-at.ensures in
    (c.requires.0.small, S.stands, omega (arith, (block-lies c.span_of-at.ensures).span), omega (arith, some, c.requires.0.room))

pub pick_around-k-requires : goal.pick_around-k-requires
pick_around-k-requires c =
    let S = c.loop-i.invariant in
    let some = merging-some S c.loop-i-test.true c.span_of-at.ensures in
    (rw (← c.requires.0.same) (merging-record S c.loop-i-test.true).0, omega (arith, some, c.put_stretch-k.ensures.count, c.requires.0.room))

pub loop-i-preserved : goal.loop-i-preserved
loop-i-preserved c =
    let e = c.advance-spot.ensures in
    merging-next c.loop-i.invariant c.loop-i-test.true c.span_of-at.ensures c.put_stretch-k.ensures c.pick_around-k.ensures e.0 e.1

pub put_stretch-requires : goal.put_stretch-requires
put_stretch-requires c =
    let M = c.loop-i.invariant in
    let l = (block-lies c.span_of-block.ensures).span in
    let few = merging-few M (omega (arith, c.loop-i-test.false)) in
    (c.requires.0.small, M.stands, omega (arith, l, c.pow4.ensures.is), omega (arith, few, c.requires.0.room))

pub returns : goal.returns
returns c = merging-last c.loop-i.invariant (omega (arith, c.loop-i-test.false)) c.put_stretch.ensures
