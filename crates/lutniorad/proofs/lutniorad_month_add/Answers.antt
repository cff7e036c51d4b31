-- `lutniorad_month_add` meets its contract: what adding answers, as numbers.
use Rattle.lutniorad.proofs.Crossing.{crossing}
use Rattle.lutniorad.proofs.lutniorad_month_add.Goals as goal

pub returns : goal.returns
returns c = crossing c.cross.ensures c.add.ensures
