-- `gather::clipped` meets its contract.
use mathlib.Core.Path.{sym}
use native.Mathlib.Omega.{arith}
use Rattle.window.proofs.Laws.{floor-le}
use Rattle.totals.proofs.Loops.{clipped-is, clipped-most}
use Rattle.gather.proofs.clipped.Goals as goal

pub shared-rows-requires : goal.shared-rows-requires
shared-rows-requires c = omega (arith, c.floor.ensures, floor-le c.args.e c.args.row, c.side-side.ensures, c.requires)

pub shared-cols-requires : goal.shared-cols-requires
shared-cols-requires c = omega (arith, c.floor-2.ensures, floor-le c.args.e c.args.col, c.side-side.ensures, c.requires)

pub overflow_mul-result : goal.overflow_mul-result
overflow_mul-result c =
    rw (c.shared-rows.ensures, c.shared-cols.ensures, c.floor.ensures, c.floor-2.ensures, c.side-side.ensures.is, ← clipped-is c.args.window c.args.e (c.args.row, c.args.col))
    (omega (arith, clipped-most c.args.window c.args.e (c.args.row, c.args.col) c.requires.0))

pub returns : goal.returns
returns c = rw (c.shared-rows.ensures, c.shared-cols.ensures, c.floor.ensures, c.floor-2.ensures, c.side-side.ensures.is) (sym (clipped-is c.args.window c.args.e (c.args.row, c.args.col)))
