-- `lutniorad_month_clear` meets its contract: what clearing answers, as numbers.
use Rattle.lutniorad.proofs.Crossing.{crossing}
use Rattle.lutniorad.proofs.lutniorad_month_clear.Goals as goal

pub returns : goal.returns
returns c = crossing c.cross.ensures c.clear.ensures
