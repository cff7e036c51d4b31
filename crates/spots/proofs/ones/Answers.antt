-- `spots::ones` meets its contract, by the entry of the table.
use Rattle.key.proofs.Loops.{ones-entry}
use Rattle.spots.proofs.ones.Goals as goal

pub returns : goal.returns
returns c = ones-entry c.args.i c.tables.ensures.ones c.requires
