-- `blocks::spread_table` meets its contract: the table is the rule over the eight bits of an index, computed once over its 256 entries.
use mathlib.Core.Path.{◌∙◌}
use Rattle.lists.proofs.Laws.{table-written}
use Rattle.key.specs.Spread.{spread_to}
use Rattle.key.proofs.Loops.{spreads-short}
use Rattle.blocks.proofs.spread_table.Goals as goal

pub returns : goal.returns
unfolding spread_to
returns c = table-written (spread_to 5 8) 0 256 ∙ spreads-short
