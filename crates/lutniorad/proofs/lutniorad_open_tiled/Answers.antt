-- `lutniorad_open_tiled` meets its contract: what opening answers, as numbers.
use Rattle.lutniorad.proofs.Crossing.{crossing}
use Rattle.lutniorad.proofs.lutniorad_open_tiled.Goals as goal

pub returns : goal.returns
returns c = crossing c.cross.ensures c.«open».ensures
