-- `lutniorad_overlay_select` meets its contract: what select answers, as numbers.
use Rattle.lutniorad.proofs.Crossing.{crossing}
use Rattle.lutniorad.proofs.lutniorad_overlay_select.Goals as goal

pub returns : goal.returns
returns c = crossing c.cross.ensures c.select.ensures
