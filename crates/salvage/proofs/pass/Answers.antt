-- `salvage::pass` meets its contract, by the invariant beside this.
use native.Mathlib.Omega.{arith}
use Rattle.salvage.proofs.Going.{going-first, going-last, going-counted, going-rest, going-records}
use Rattle.salvage.proofs.pass.Goals as goal

pub loop-kept-init : goal.loop-kept-init
loop-kept-init c = going-first _ _ _ _ c.first_spot.ensures.1 c.first_spot.ensures.0

pub keep_along-kept-requires : goal.keep_along-kept-requires
keep_along-kept-requires c =
    let p = c.requires in
    let G = c.loop-kept.invariant in
    (p.0, p.1, p.2, G.within, G.stands, going-records G p.0 p.2)

-- behind the last record
pub fill-done-requires : goal.fill-done-requires
fill-done-requires c =
    let G = c.keep_along-kept.ensures.goes _ _ c.loop-kept.invariant in
    let last = going-rest G c.requires.0 c.requires.2 (omega (arith, c.if-kept-keys.true)) in
    let e = c.pow4.ensures.is in
    (c.requires.0, G.stands, omega (arith, e, G.stands.within), omega (arith, e), rw e last)

pub returns-then-kept-keys : goal.returns-then-kept-keys
returns-then-kept-keys c =
    let G = c.keep_along-kept.ensures.goes _ _ c.loop-kept.invariant in
    going-last G (omega (arith, c.if-kept-keys.true)) (rw c.pow4.ensures.is at c.fill-done.ensures.gap_filled)

-- before a record that does not start where the walk stands
pub mend-at-requires-clause-countable : goal.mend-at-requires-clause-countable
mend-at-requires-clause-countable c =
    let k = c.keep_along-kept.ensures in
    going-counted (k.goes _ _ c.loop-kept.invariant) c.requires.0 c.requires.2 (omega (arith, c.if-kept-keys.false, k.within))

pub loop-kept-preserved : goal.loop-kept-preserved
loop-kept-preserved c = c.mend-at.ensures.goes _ _ (c.keep_along-kept.ensures.goes _ _ c.loop-kept.invariant)

pub loop-kept-smaller : goal.loop-kept-smaller
loop-kept-smaller c =
    let k = c.keep_along-kept.ensures in
    let d = c.mend-at.ensures in
    let after = loop-kept-preserved c in
    omega (arith, c.if-kept-keys.false, k.within, k.onward, k.forward, d.less, d.forward, after.within, after.stands.within)
