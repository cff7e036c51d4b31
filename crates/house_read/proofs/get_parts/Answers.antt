-- `house_read::get_parts` meets its contract: the keys are filled from the file's keys, and the classes from what is behind them.
use Rattle.house.proofs.Loops.{keys-got}
use Rattle.house_read.proofs.get_parts.Goals as goal

pub returns-clause-keys_after : goal.returns-clause-keys_after
returns-clause-keys_after c = keys-got c.args.file.now _ _ c.get_all.ensures c.requires.1
