-- `lutniorad_windows` meets its contract: what many windows are answered, as numbers.
use Rattle.lutniorad.proofs.Crossing.{crossing}
use Rattle.lutniorad.proofs.lutniorad_windows.Goals as goal

pub returns : goal.returns
returns c = crossing c.cross.ensures c.count.ensures
