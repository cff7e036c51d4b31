-- `walk::next_block` meets its contract, by the invariant beside this.
use mathlib.Core.Path.{◌≡◌}
use mathlib.Core.Logic.{◌↔◌}
use Prim.Native.Nat.{suc, ◌+◌, ◌≤◌, ◌<◌}
use native.Mathlib.Omega.{arith}
use Rattle.window.specs.Blocks.{floor}
use Rattle.window.proofs.Laws.{floor-le, exponent-le}
use Rattle.window.proofs.Loops.{alignment-floor, left_down, walking-first, walking-in, walking-block, walking_on, walking-less, walking-over, over-less, walking-down, walking-last}
use Rattle.walk.proofs.next_block.Goals as goal
use Rattle.walk.proofs.next_block.Goals.{After-alignment-by_col, After-alignment-by_row, At-loop-col, Start, Then-by_row-exponent}

pub overflow_add-south : goal.overflow_add-south
overflow_add-south c = omega (arith, c.requires.1)

pub overflow_add-east : goal.overflow_add-east
overflow_add-east c = omega (arith, c.requires.1)

pub loop-col-init : goal.loop-col-init
loop-col-init c = walking-first c.requires.2

pub exponent-exponent-requires : goal.exponent-exponent-requires
exponent-exponent-requires c = (c.requires.0, c.requires.1, walking-in c.loop-col.invariant (omega (arith, c.if-col-east.true)))

pub alignment-by_row-requires : goal.alignment-by_row-requires
alignment-by_row-requires c = c.requires.0

-- at a pixel of the window, where the exponent and the row's alignment are known
module _ (c : After-alignment-by_row) where
  abbrev at : At-loop-col
  at = c.before.before.before

  abbrev start : Start
  start = at.before.before.before

  east : at.loop-col.col < start.args.window.c0 + start.args.window.w
  east = omega (arith, c.if-col-east.true)

  cap : c.exponent-exponent.result ≤ start.args.top
  cap = omega (arith, c.exponent-exponent.ensures, exponent-le start.args.window start.args.top (at.loop-col.row, at.loop-col.col))

  small : c.exponent-exponent.result ≤ 12
  small = omega (arith, cap, start.requires.0)

-- where that is below the exponent, it is the row's
inside : (c : Then-by_row-exponent) → floor (suc c.alignment-by_row.result) (at c.before).loop-col.row ≡ (at c.before).loop-col.row → ⊥
inside c e =
    let up = (alignment-floor (start c.before).args.top (at c.before).loop-col.row (suc c.alignment-by_row.result) (omega (arith, c.if-by_row-exponent.true, cap c.before))).1 e in
    omega (arith, c.alignment-by_row.ensures)

pub overflow_add-by_row : goal.overflow_add-by_row
overflow_add-by_row c = omega (arith, small c.before, c.if-by_row-exponent.true)

pub floor-col-requires : goal.floor-col-requires
floor-col-requires c = omega (arith, small c.before, c.if-by_row-exponent.true)

pub loop-col-smaller-then-by_row-exponent : goal.loop-col-smaller-then-by_row-exponent
loop-col-smaller-then-by_row-exponent c =
    let h = c.before.before in
    over-less (at h).loop-col.invariant (east h) h.exponent-exponent.ensures c.if-by_row-exponent.true c.floor-col.ensures

pub loop-col-preserved-then-by_row-exponent : goal.loop-col-preserved-then-by_row-exponent
loop-col-preserved-then-by_row-exponent c =
    let h = c.before.before in
    walking-over (at h).loop-col.invariant (east h) h.exponent-exponent.ensures c.if-by_row-exponent.true c.floor-col.ensures (inside c.before)

pub alignment-by_col-requires : goal.alignment-by_col-requires
alignment-by_col-requires c = (start c.before).requires.0

-- where it is not, and the column's alignment is known
module _ (c : After-alignment-by_col) where
  abbrev here : After-alignment-by_row
  here = c.before.before

  by-col : (here.exponent-exponent.result ≤ c.alignment-by_col.result) ↔ (floor here.exponent-exponent.result (at here).loop-col.col ≡ (at here).loop-col.col)
  by-col =
      let d = alignment-floor (start here).args.top (at here).loop-col.col here.exponent-exponent.result (cap here) in
      (λ l. d.0 (omega (arith, c.alignment-by_col.ensures)), λ q. let k = d.1 q in omega (arith, c.alignment-by_col.ensures))

  by_row : floor here.exponent-exponent.result (at here).loop-col.row ≡ (at here).loop-col.row
  by_row = (alignment-floor (start here).args.top (at here).loop-col.row here.exponent-exponent.result (cap here)).0 (omega (arith, c.if-by_row-exponent.false, here.alignment-by_row.ensures))

pub returns-then-exponent-by_col : goal.returns-then-exponent-by_col
returns-then-exponent-by_col c =
    let h = c.before in
    walking-block (at (here h)).loop-col.invariant (east (here h)) (here h).exponent-exponent.ensures (by_row h) ((by-col h).0 c.if-exponent-by_col.true)

pub floor-requires : goal.floor-requires
floor-requires c = omega (arith, small c.before.before.before)

pub side-requires : goal.side-requires
side-requires c = omega (arith, small c.before.before.before.before)

pub overflow_add-col : goal.overflow_add-col
overflow_add-col c =
    let h = here c.before.before.before in
    omega (arith, c.side.ensures, c.floor.ensures, floor-le h.exponent-exponent.result (at h).loop-col.col, (at h).loop-col.invariant.cursor, (start h).requires.1)

pub loop-col-smaller-else-by_row-exponent : goal.loop-col-smaller-else-by_row-exponent
loop-col-smaller-else-by_row-exponent c =
    let h = here c.before.before.before in
    walking-less (at h).loop-col.invariant (east h) h.exponent-exponent.ensures (omega (arith, c.floor.ensures, c.side.ensures.is))

pub loop-col-preserved-else-by_row-exponent : goal.loop-col-preserved-else-by_row-exponent
loop-col-preserved-else-by_row-exponent c =
    let k = c.before.before.before in
    let h = here k in
    let other : floor h.exponent-exponent.result (at h).loop-col.col ≡ (at h).loop-col.col → ⊥ = λ q. omega (arith, (by-col k).1 q, c.if-exponent-by_col.false) in
    walking_on (at h).loop-col.invariant (east h) h.exponent-exponent.ensures other (omega (arith, c.floor.ensures, c.side.ensures.is))

pub overflow_add-row : goal.overflow_add-row
overflow_add-row c = omega (arith, c.loop-col.invariant.cursor, c.requires.1)

pub returns-then-row-south : goal.returns-then-row-south
returns-then-row-south c = walking-last c.loop-col.invariant (omega (arith, c.if-col-east.false)) (omega (arith, c.if-row-south.true))

pub loop-col-smaller : goal.loop-col-smaller
loop-col-smaller c = left_down _ _ _ c.loop-col.invariant.cursor (omega (arith, c.if-col-east.false)) c.if-row-south.false

pub loop-col-preserved : goal.loop-col-preserved
loop-col-preserved c = walking-down c.loop-col.invariant (omega (arith, c.if-col-east.false)) c.if-row-south.false
