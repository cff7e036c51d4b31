-- `lutniorad_sparse_exist` meets its contract: what exist answers, as numbers.
use Rattle.lutniorad.proofs.Crossing.{crossing}
use Rattle.lutniorad.proofs.lutniorad_sparse_exist.Goals as goal

pub returns : goal.returns
returns c = crossing c.cross.ensures c.exist.ensures
