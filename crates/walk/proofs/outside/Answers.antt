-- `walk::outside` meets its contract.
use mathlib.Core.Path.{sym, ◌∙◌}
use Rattle.window.proofs.Loops.{outside-rows, outside-cols}
use Rattle.walk.proofs.outside.Goals as goal

pub returns-then-beyond : goal.returns-then-beyond
returns-then-beyond c = c.if-beyond.true ∙ sym (outside-rows _ _ (sym c.beyond.ensures ∙ c.if-beyond.true))

pub returns-else-beyond : goal.returns-else-beyond
returns-else-beyond c = c.beyond-else-beyond.ensures ∙ sym (outside-cols _ _ (sym c.beyond.ensures ∙ c.if-beyond.false))
