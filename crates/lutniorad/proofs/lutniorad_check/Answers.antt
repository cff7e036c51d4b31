-- `lutniorad_check` meets its contract: what the check answers, as numbers.
use Rattle.lutniorad.proofs.Crossing.{crossing-alone}
use Rattle.lutniorad.proofs.lutniorad_check.Goals as goal

pub returns : goal.returns
returns c = crossing-alone c.cross.ensures c.check.ensures
