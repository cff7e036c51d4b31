-- `house_write::put_parts` meets its contract: the header is written, then the keys behind it, then the classes.
use Rattle.house.proofs.Loops.{parts-put}
use Rattle.house_write.proofs.put_parts.Goals as goal

pub returns : goal.returns
returns c = parts-put _ _ _ _ c.requires.0.same c.requires.1 c.put_all.ensures c.put_all-2.ensures c.copy.ensures
