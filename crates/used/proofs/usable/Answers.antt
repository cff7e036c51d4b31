-- `used::usable` meets its contract. Each test decides what its law in `Use` says.
use mathlib.Core.Path.{sym, ◌∙◌}
use Rattle.answers.proofs.Laws.{handed-on}
use Rattle.map.proofs.Laws.{sound-map}
use Rattle.used.proofs.Use.{use-refused, use-view}
use Rattle.used.proofs.usable.Goals as goal

pub returns-in_err-sound : goal.returns-in_err-sound
returns-in_err-sound c = handed-on c.from_residual.ensures ∙ sym (use-refused _ _ _ _ _ _ (sym c.sound.ensures ∙ c.in_err-sound.was))

pub in_view-requires : goal.in_view-requires
in_view-requires c = ((sound-map _ _ _).0 (sym c.sound.ensures ∙ c.in_ok-sound.was)).sizes.small

pub returns : goal.returns
returns c = c.in_view.ensures ∙ sym (use-view _ _ _ _ _ _ (sym c.sound.ensures ∙ c.in_ok-sound.was))
