-- `beginning::put_map` meets its contract: what the check of the map says is what is printed.
use mathlib.Core.Path.{sym, ◌∙◌, refl}
use Rattle.beginning.proofs.Starts.{line-said, map-passed, map-refused}
use Rattle.beginning.proofs.put_map.Goals as goal

pub returns-in-Ok : goal.returns-in-Ok
returns-in-Ok c = (map-passed _ _ _ (sym c.sound.ensures ∙ c.in-Ok.is), refl)

pub returns-in-Err : goal.returns-in-Err
returns-in-Err c = line-said _ _ _ _ _ (map-refused _ _ _ (sym c.sound.ensures ∙ c.in-Err.is)) (rw c.number.ensures at c.put_refusal.ensures)
