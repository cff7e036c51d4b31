-- `lutniorad_write` meets its contract: what writing answers, as numbers.
use Rattle.lutniorad.proofs.Crossing.{crossing}
use Rattle.lutniorad.proofs.lutniorad_write.Goals as goal

pub returns : goal.returns
returns c = crossing c.cross.ensures c.write.ensures
