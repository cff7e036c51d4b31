-- `lutniorad_why_block` meets its contract: what is said of a block, as numbers.
use Rattle.lutniorad.proofs.Crossing.{crossing}
use Rattle.lutniorad.proofs.lutniorad_why_block.Goals as goal

pub returns : goal.returns
returns c = crossing c.cross.ensures c.of_block.ensures
