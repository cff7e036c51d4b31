-- `lutniorad_read` meets its contract: what reading answers, as numbers.
use Rattle.lutniorad.proofs.Crossing.{crossing}
use Rattle.lutniorad.proofs.lutniorad_read.Goals as goal

pub returns : goal.returns
returns c = crossing c.cross.ensures c.read.ensures
