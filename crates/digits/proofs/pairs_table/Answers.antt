-- `digits::pairs_table` meets its contract: the table is the rule.
use mathlib.Core.Path.{sym}
use Rattle.key.proofs.Loops.{pairs-listed}
use Rattle.digits.proofs.pairs_table.Goals as goal

pub returns : goal.returns
returns c = sym pairs-listed
