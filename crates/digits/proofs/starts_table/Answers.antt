-- `digits::starts_table` meets its contract: the table is the rule.
use mathlib.Core.Path.{sym}
use Rattle.key.proofs.Loops.{starts-listed}
use Rattle.digits.proofs.starts_table.Goals as goal

pub returns : goal.returns
returns c = sym starts-listed
