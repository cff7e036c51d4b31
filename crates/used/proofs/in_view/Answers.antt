-- `used::in_view` meets its contract. Each test decides what its law in `Use` says.
use mathlib.Core.Path.{sym, ◌∙◌}
use Rattle.answers.proofs.Laws.{refusing}
use Rattle.used.proofs.Use.{view-outside, view-inside}
use Rattle.used.proofs.in_view.Goals as goal

pub returns-then-outside : goal.returns-then-outside
returns-then-outside c = refusing c.at.ensures (view-outside _ _ _ (sym c.outside.ensures ∙ c.if-outside.true))

pub returns : goal.returns
returns c = c.wide_enough.ensures ∙ sym (view-inside _ _ _ (sym c.outside.ensures ∙ c.if-outside.false))
