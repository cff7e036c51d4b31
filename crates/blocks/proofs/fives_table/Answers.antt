-- `blocks::fives_table` meets its contract: the table is the rule, written once for its 13 entries.
use Prim.Native.Nat.{ℕ, ◌^◌}
use Rattle.lists.proofs.Laws.{table-written}
use Rattle.blocks.proofs.fives_table.Goals as goal

pub returns : goal.returns
returns c = table-written (λ (k : ℕ). 5 ^ k) 0 13
