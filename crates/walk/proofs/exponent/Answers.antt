-- `walk::exponent` meets its contract: the least of what rows, columns and `top` allow.
use mathlib.Core.Path.{◌≡◌, ap}
use Prim.Native.Nat.{ℕ, min, ◌+◌, ◌-◌, ◌*◌, ◌≤◌}
use native.Mathlib.Omega.{arith}
use lib.Count.{count_leading_zeros}
use Rattle.key.proofs.Laws.{leading-most}
use Rattle.window.specs.Blocks.{exponent}
use Rattle.window.proofs.Loops.{exponent-least}
use Rattle.walk.proofs.exponent.Goals as goal
use Rattle.walk.proofs.exponent.Goals.{After-min-both, Start}

-- both reaches are known
module _ (c : After-min-both) where
  abbrev entry : Start
  entry = c.before.before.before

  bit : count_leading_zeros 32 (2 * c.min-both.result + 1) ≤ 30
  bit =
      let rows = c.reach-rows.ensures in
      leading-most _ (omega (arith, c.min-both.ensures, rows.some, c.reach-cols.ensures.some)) (omega (arith, c.min-both.ensures, rows.most))

  is : min entry.args.top (30 - count_leading_zeros 32 (2 * c.min-both.result + 1)) ≡ exponent entry.args.window entry.args.top (entry.args.row, entry.args.col)
  is =
      exponent-least _ _ entry.requires.2 entry.requires.0 c.reach-rows.ensures c.reach-cols.ensures
      (ap (λ (x : ℕ). 30 - count_leading_zeros 32 (2 * x + 1)) c.min-both.ensures)

pub overflow_sub-i : goal.overflow_sub-i
overflow_sub-i c = omega (arith, bit c)

pub returns : goal.returns
returns c = omega (arith, is (goal.at.returns c).After-min-both, c.min.ensures)
