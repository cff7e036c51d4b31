-- `lutniorad_select_tiled` meets its contract: what select answers, as numbers.
use Rattle.lutniorad.proofs.Crossing.{crossing}
use Rattle.lutniorad.proofs.lutniorad_select_tiled.Goals as goal

pub returns : goal.returns
returns c = crossing c.cross.ensures c.select.ensures
