-- `many::wrong_list` meets its contract.
use mathlib.Core.Path.{sym, ap, ◌∙◌}
use mathlib.Core.Bool.{not}
use borrow.Author.Tests.{ne_eqb}
use Rattle.many.proofs.Tables.{wrong-odd, wrong-fours}
use Rattle.many.proofs.wrong_list.Goals as goal

pub returns-then-n-ne0 : goal.returns-then-n-ne0
returns-then-n-ne0 c = ap not (ne_eqb _ 0 c.if-n-ne0.true) ∙ sym (wrong-odd _ c.if-n-ne0.true)

pub returns-else-n-ne0 : goal.returns-else-n-ne0
returns-else-n-ne0 c = sym (wrong-fours _ c.if-n-ne0.false)
