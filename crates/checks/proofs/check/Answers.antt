-- `checks::check` meets its contract: the number of records where the map is sound, and else its refusal.
use mathlib.Core.Path.{sym, ◌∙◌}
use native.Mathlib.Omega.{arith}
use Rattle.answers.proofs.Laws.{handed-on}
use Rattle.map.proofs.Loops.{check-refused, check-passed}
use Rattle.map.proofs.Laws.{sound-map}
use Rattle.checks.proofs.check.Goals as goal

pub returns-in_err-sound : goal.returns-in_err-sound
returns-in_err-sound c = handed-on c.from_residual.ensures ∙ sym (check-refused _ _ _ _ (sym c.sound.ensures ∙ c.in_err-sound.was))

pub overflow_cast-result : goal.overflow_cast-result
overflow_cast-result c = omega (arith, ((sound-map _ _ _).0 (sym c.sound.ensures ∙ c.in_ok-sound.was)).sizes)

pub returns : goal.returns
returns c = sym (check-passed _ _ _ _ (sym c.sound.ensures ∙ c.in_ok-sound.was))
