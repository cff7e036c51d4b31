-- `step::push` meets its contract: the columns of the block, as far as the window has it, are filled with the row below it.
use mathlib.Core.Path.{◌≡◌, ◌∙◌}
use Prim.Native.Nat.{ℕ, min, ◌+◌, ◌-◌, ◌^◌}
use native.Mathlib.Omega.{arith}
use Rattle.window.specs.declared.Window.{Window}
use Rattle.window.specs.Blocks.{floor}
use Rattle.window.proofs.Laws.{floor-le, floor-lt}
use Rattle.border.specs.Cells.{west, east, south}
use Rattle.border.proofs.Loops.{pushed-is, shut_none, shut-some}
use Rattle.step.proofs.push.Goals as goal

-- from where to where the cells are filled, and with what
module _ (W : Window) (n row col : ℕ) {side : ℕ} (s : side ≡ 2 ^ n) where
  from : {x f : ℕ} → x ≡ floor n col → f ≡ x - W.c0 → f ≡ west W n (row, col)
  from p q = omega arith

  to : {x y t : ℕ} → x ≡ floor n col → y ≡ min (x + side) (W.c0 + W.w) → t ≡ y - W.c0 → t ≡ east W n (row, col)
  to p q r = omega arith

  value : {x v : ℕ} → x ≡ floor n row → v ≡ min (x + side) (W.r0 + W.h) → v ≡ south W n (row, col)
  value p q = omega arith

pub overflow_add-west : goal.overflow_add-west
overflow_add-west c = omega (arith, c.floor-west.ensures, c.side-side.ensures, floor-le c.args.n c.args.col, c.requires)

pub overflow_add-floor : goal.overflow_add-floor
overflow_add-floor c = omega (arith, c.floor.ensures, c.side-side.ensures, floor-le c.args.n c.args.row, c.requires)

-- the columns do not end before they begin, and end within the border
pub fill-requires : goal.fill-requires
fill-requires c =
    let low = floor-le c.args.n c.args.col in
    let high = floor-lt c.args.n c.args.col in
    omega (arith, c.saturating_sub-from.ensures, c.saturating_sub-to.ensures, c.min-east.ensures, c.floor-west.ensures, c.side-side.ensures, low, high, c.requires)

pub overflow_sub-result : goal.overflow_sub-result
overflow_sub-result c =
    let low = floor-le c.args.n c.args.col in
    let high = floor-lt c.args.n c.args.col in
    omega (arith, c.saturating_sub-from.ensures, c.saturating_sub-to.ensures, c.min-east.ensures, c.floor-west.ensures, c.side-side.ensures, low, high, c.requires)

pub returns-then-south-window : goal.returns-then-south-window
returns-then-south-window c =
    let W = c.args.window in
    let f = from W c.args.n c.args.row c.args.col c.side-side.ensures.is c.floor-west.ensures c.saturating_sub-from.ensures in
    let t = to W c.args.n c.args.row c.args.col c.side-side.ensures.is c.floor-west.ensures c.min-east.ensures c.saturating_sub-to.ensures in
    let v = value W c.args.n c.args.row c.args.col c.side-side.ensures.is c.floor.ensures c.min-south.ensures in
    (shut_none _ _ _ v c.if-south-window.true, c.fill.ensures ∙ pushed-is _ _ _ _ f t v)

pub returns : goal.returns
returns c =
    let W = c.args.window in
    let f = from W c.args.n c.args.row c.args.col c.side-side.ensures.is c.floor-west.ensures c.saturating_sub-from.ensures in
    let t = to W c.args.n c.args.row c.args.col c.side-side.ensures.is c.floor-west.ensures c.min-east.ensures c.saturating_sub-to.ensures in
    let v = value W c.args.n c.args.row c.args.col c.side-side.ensures.is c.floor.ensures c.min-south.ensures in
    (shut-some _ _ _ f t v (omega (arith, c.if-south-window.false)), c.fill.ensures ∙ pushed-is _ _ _ _ f t v)
