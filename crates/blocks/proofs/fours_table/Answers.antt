-- `blocks::fours_table` meets its contract: the table is the rule.
use mathlib.Core.Path.{sym}
use Rattle.key.proofs.Loops.{fours-listed}
use Rattle.blocks.proofs.fours_table.Goals as goal

pub returns : goal.returns
returns c = sym fours-listed
