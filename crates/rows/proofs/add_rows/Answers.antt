-- `rows::add_rows` meets its contract, by the invariant beside this.
use native.Mathlib.Omega.{arith}
use Rattle.rows.proofs.Rows.{growing-first, growing-row, growing-next, growing-last}
use Rattle.rows.proofs.add_rows.Goals as goal

pub loop-k-init : goal.loop-k-init
loop-k-init c = growing-first _ _ _ c.requires.long

pub add_row-requires : goal.add_row-requires
add_row-requires c =
    let g = c.loop-k.invariant in
    let p = c.requires in
    let l = c.loop-k-test.true in
    (omega (arith, p.long, g.cells.same), l, rw c.from.ensures (p.small _ l), rw (growing-row _ _ _ p.long g) (p.fits _ l))

pub loop-k-preserved : goal.loop-k-preserved
loop-k-preserved c = growing-next _ _ _ c.requires.long c.loop-k.invariant c.loop-k-test.true (rw (c.from.ensures) at c.add_row.ensures)

pub returns : goal.returns
returns c = growing-last _ _ _ c.requires.long c.loop-k.invariant c.loop-k-test.false
