-- `blocks::pow5` meets its contract, by the entry of the table.
use Prim.Native.Nat.{ℕ, ◌^◌}
use native.Mathlib.Omega.{arith}
use Rattle.lists.proofs.Laws.{table-entry}
use Rattle.key.proofs.Laws.{power}
use Rattle.blocks.proofs.pow5.Goals as goal

pub returns : goal.returns
returns c = power 4 c.args.k (table-entry (λ (k : ℕ). 5 ^ k) 13 c.args.k c.fives_table.ensures (omega (arith, c.requires))) c.requires
