-- `lutniorad_salvage` meets its contract: what salvage answers, as numbers.
use Rattle.lutniorad.proofs.Crossing.{crossing}
use Rattle.lutniorad.proofs.lutniorad_salvage.Goals as goal

pub returns : goal.returns
returns c = crossing c.cross.ensures c.salvage.ensures
