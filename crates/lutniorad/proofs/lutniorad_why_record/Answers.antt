-- `lutniorad_why_record` meets its contract: what is said of a record, as numbers.
use Rattle.lutniorad.proofs.Crossing.{crossing}
use Rattle.lutniorad.proofs.lutniorad_why_record.Goals as goal

pub returns : goal.returns
returns c = crossing c.cross.ensures c.of_record.ensures
