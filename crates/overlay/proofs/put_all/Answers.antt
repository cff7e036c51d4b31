-- `overlay::put_all` meets its contract, by the invariant beside this.
use mathlib.Core.Path.{refl}
use Prim.Native.Nat.{ℕ}
use native.Mathlib.Omega.{arith}
use Rattle.map.proofs.Laws.{spaced}
use Rattle.window.proofs.Laws.{goes-block, inside-12}
use Rattle.sparse_select.proofs.Laws.{walking-first, walking-last, walking-goes, walking-room, walking-next}
use Rattle.pieces.specs.Pair.{class_over_map}
use Rattle.overlay.specs.Select.{class_selection}
use Rattle.overlay.proofs.Blocks.{block_listed, class-fits}
use Rattle.overlay.proofs.put_all.Goals as goal

pub first_stand-at-requires : goal.first_stand-at-requires
first_stand-at-requires c = let p = c.requires.0 in (p.small, p.today, spaced p.under)

pub blocks-block-items-requires : goal.blocks-block-items-requires
blocks-block-items-requires c = let p = c.requires in (p.0.small, inside-12 p.0.small p.1)

pub loop-block-init : goal.loop-block-init
loop-block-init c =
    rw c.into_iter-block-iterator.ensures.into_iter_gives
    (record { walking = walking-first _ c.requires.1 c.blocks-block-items.ensures _; stands = c.first_stand-at.ensures })

pub block_ahead-ahead-requires : goal.block_ahead-ahead-requires
block_ahead-ahead-requires c =
    let p = c.requires in
    let k = c.loop-block.invariant in
    let b = goes-block p.1 (omega arith) (walking-goes k.walking c.in-Some.ensures.steps) in
    (p.0.small, p.0.today, spaced p.0.under, k.stands, b.0, b.1, b.2)

pub put_class-n-requires : goal.put_class-n-requires
unfolding class_selection
put_class-n-requires c =
    let p = c.requires in
    let a = c.args in
    let k = c.loop-block.invariant in
    let g = c.in-Some.ensures.steps in
    let e = c.block_ahead-ahead.ensures in
    let rule : ℕ → ℕ = class_over_map a.m a.keys.now a.classes.now a.base.now a.beneath.now in
    let b = goes-block p.1 (omega arith) (walking-goes k.walking g) in
    let fits = class-fits a.m rule a.class p.0.today p.1 p.0.small in
    let room = walking-room k.walking g refl fits in
    record {
      paired = (p.0, e.3, omega (arith, e.0, e.1), e.2);
      end_bound = rw (block_listed a.m rule a.class b.2 e.0 e.1) (omega (arith, room));
    }

pub loop-block-preserved : goal.loop-block-preserved
loop-block-preserved c =
    let a = c.args in
    let k = c.loop-block.invariant in
    let g = c.in-Some.ensures.steps in
    let e = c.block_ahead-ahead.ensures in
    let rule : ℕ → ℕ = class_over_map a.m a.keys.now a.classes.now a.base.now a.beneath.now in
    let b = goes-block c.requires.1 (omega arith) (walking-goes k.walking g) in
    record { walking = walking-next k.walking g refl (rw (block_listed a.m rule a.class b.2 e.0 e.1) at c.put_class-n.ensures); stands = e.3 }

pub returns : goal.returns
unfolding class_selection
returns c = walking-last c.loop-block.invariant.walking c.in-None.ensures.steps
