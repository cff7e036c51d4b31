-- `lutniorad_decompose_tiled` meets its contract: what decomposing answers, as numbers.
use Rattle.lutniorad.proofs.Crossing.{crossing}
use Rattle.lutniorad.proofs.lutniorad_decompose_tiled.Goals as goal

pub returns : goal.returns
returns c = crossing c.cross.ensures c.decompose.ensures
