-- `used::usable_tiled` meets its contract: one table after the other.
use mathlib.Core.Path.{sym, ◌∙◌}
use Rattle.answers.proofs.Laws.{handed-on}
use Rattle.used.proofs.Tiled.{tiled-first, tiled-next}
use Rattle.used.proofs.usable_tiled.Goals as goal

pub returns-in_err-tile : goal.returns-in_err-tile
returns-in_err-tile c = handed-on c.from_residual.ensures ∙ sym (tiled-first _ _ _ _ _ _ _ (sym c.tile.ensures ∙ c.in_err-tile.was))

pub returns : goal.returns
returns c = c.usable.ensures ∙ sym (tiled-next _ _ _ _ _ _ _ (sym c.tile.ensures ∙ c.in_ok-tile.was))
