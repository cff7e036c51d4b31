-- `blocks::four_bits` meets its contract, by the entry of the table.
use Rattle.key.proofs.Loops.{fours-entry}
use Rattle.blocks.proofs.four_bits.Goals as goal

pub returns : goal.returns
returns c = rw c.fours_table.ensures (fours-entry c.args.x c.requires)
