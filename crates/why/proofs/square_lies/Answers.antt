-- `why::square_lies` meets its contract: each test is one of the sides, in their order.
use native.Mathlib.Omega.{arith}
use Rattle.why.specs.Promises.{north, south, west, east, none}
use Rattle.why.proofs.Squares.{lies_so}
use Rattle.why.proofs.square_lies.Goals as goal

pub returns-then-row-side : goal.returns-then-row-side
returns-then-row-side c = lies_so _ _ _ _ (north (omega arith))

pub returns-then-window-row : goal.returns-then-window-row
returns-then-window-row c = lies_so _ _ _ _ (south (λ n. omega (arith, n)) (omega arith))

pub returns-then-col-side : goal.returns-then-col-side
returns-then-col-side c = lies_so _ _ _ _ (west (λ n. omega (arith, n)) (λ s. omega (arith, s)) (omega arith))

pub returns-then-window-col : goal.returns-then-window-col
returns-then-window-col c = lies_so _ _ _ _ (east (λ n. omega (arith, n)) (λ s. omega (arith, s)) (λ w. omega (arith, w)) (omega arith))

pub returns : goal.returns
returns c = lies_so _ _ _ _ (none (λ n. omega (arith, n)) (λ s. omega (arith, s)) (λ w. omega (arith, w)) (λ e. omega (arith, e)))
