-- `pick::pick` meets its contract.
use native.Mathlib.Omega.{arith}
use Rattle.pick.proofs.Picking.{picked-around, picked-inside}
use Rattle.pick.proofs.pick.Goals as goal

pub returns-then-exponent-run : goal.returns-then-exponent-run
returns-then-exponent-run c = rw (picked-around _ _ _ _ _ c.args.run c.if-exponent-run.true) c.pick_around.ensures

pub returns : goal.returns
returns c = rw (picked-inside _ _ _ _ c.args.exponent c.args.run (omega (arith, c.if-exponent-run.false))) c.pick_run.ensures
