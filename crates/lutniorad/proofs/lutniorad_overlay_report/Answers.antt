-- `lutniorad_overlay_report` meets its contract: what report answers, as numbers.
use Rattle.lutniorad.proofs.Crossing.{crossing}
use Rattle.lutniorad.proofs.lutniorad_overlay_report.Goals as goal

pub returns : goal.returns
returns c = crossing c.cross.ensures c.report.ensures
