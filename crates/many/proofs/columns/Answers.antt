-- `many::columns` meets its contract.
use mathlib.Core.Path.{sym, ◌∙◌}
use Rattle.many.proofs.Border.{columns-outside, columns-inside}
use Rattle.many.proofs.columns.Goals as goal

pub returns-then-outside : goal.returns-then-outside
returns-then-outside c = sym (columns-outside _ _ (sym c.outside.ensures ∙ c.if-outside.true))

pub returns-else-outside : goal.returns-else-outside
returns-else-outside c = sym (columns-inside _ _ (sym c.outside.ensures ∙ c.if-outside.false))
