-- `gather::gather_run` meets its contract, by the invariant beside this.
use Prim.Native.Nat.{◌<◌}
use native.Mathlib.Omega.{arith}
use lib.ListN.{get_or}
use Rattle.key.proofs.Laws.{block-lies}
use Rattle.window.proofs.Laws.{inside-12}
use Rattle.totals.proofs.Loops.{fills-small, fills_first, fills-key, fills-within, fills-begins, fills-area, fills-next, adding-first, adding-most, adding-next, adding-last}
use Rattle.gather.proofs.gather_run.Goals as goal

pub loop-n-init : goal.loop-n-init
loop-n-init c = (adding-first c.requires.1, c.first_spot-spot.ensures.1, rw c.first_spot-spot.ensures.0 (fills_first c.requires.0))

pub bounds-keys-n : goal.bounds-keys-n
bounds-keys-n c = fills-within c.requires.0 (omega arith)

pub overflow_sub-inner : goal.overflow_sub-inner
overflow_sub-inner c = fills-key c.requires.0 (omega arith)

pub exponent_here-e-requires : goal.exponent_here-e-requires
exponent_here-e-requires c =
    (omega (arith, fills-small c.requires.0, c.requires.0.hands.given.small), c.loop-n.invariant.1, fills-begins c.requires.0 (omega arith) c.loop-n.invariant.2)

pub pow4-requires : goal.pow4-requires
pow4-requires c = omega (arith, (block-lies c.exponent_here-e.ensures).small, fills-small c.requires.0, c.requires.0.hands.given.small)

pub overflow_add-totals : goal.overflow_add-totals
overflow_add-totals c =
    let g = c.requires.0.hands.given in
    let byte : get_or c.args.classes.now c.loop-n.n 0 < 256 = omega (arith, c.type_inv.classes c.loop-n.n) in
    let area = fills-area c.requires.0 (omega arith) c.loop-n.invariant.2 c.exponent_here-e.ensures c.pow4.ensures.is in
    omega (arith, adding-most c.loop-n.invariant.0 c.loop-n-test.true (inside-12 g.small g.inside) byte, area)

pub advance-spot-requires : goal.advance-spot-requires
advance-spot-requires c = (omega (arith, fills-small c.requires.0, c.requires.0.hands.given.small), c.exponent_here-e.ensures)

pub loop-n-preserved : goal.loop-n-preserved
loop-n-preserved c = (
  adding-next c.loop-n.invariant.0 c.loop-n-test.true (fills-area c.requires.0 (omega arith) c.loop-n.invariant.2 c.exponent_here-e.ensures c.pow4.ensures.is),
  c.advance-spot.ensures.1,
  fills-next c.requires.0 (omega arith) c.loop-n.invariant.2 c.exponent_here-e.ensures c.advance-spot.ensures.0,
)

pub returns : goal.returns
returns c = adding-last _ c.loop-n.invariant.0 (omega arith)
