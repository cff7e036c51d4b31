-- `lutniorad_overlay_part` meets its contract: which part it is, as numbers.
use Rattle.lutniorad.proofs.Crossing.{crossing-alone}
use Rattle.lutniorad.proofs.lutniorad_overlay_part.Goals as goal

pub returns : goal.returns
returns c = crossing-alone c.cross.ensures c.view.ensures
