-- `runs::keys_below` meets its contract, by the invariant beside this.
use native.Mathlib.Omega.{arith}
use Rattle.map.proofs.Loops.{between-upper, between_lower, between-last}
use Rattle.runs.proofs.keys_below.Goals as goal

pub loop-low-init : goal.loop-low-init
loop-low-init c = c.requires.1

pub loop-low-preserved-then-keys-middle : goal.loop-low-preserved-then-keys-middle
loop-low-preserved-then-keys-middle c = between-upper c.requires.0 c.loop-low.invariant (omega arith) (omega (arith, c.if-keys-middle.true))

pub loop-low-preserved : goal.loop-low-preserved
loop-low-preserved c = between_lower c.requires.0 c.loop-low.invariant (omega arith) (omega arith) (omega (arith, c.if-keys-middle.false))

pub returns : goal.returns
returns c = between-last c.loop-low.invariant c.loop-low-test.false
