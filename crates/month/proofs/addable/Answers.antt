-- `month::addable` meets its contract. Each call decides what its law in `Tables` says.
use mathlib.Core.Path.{sym, ◌∙◌}
use Rattle.answers.proofs.Laws.{handed-on}
use Rattle.window.proofs.Laws.{inside-12}
use Rattle.map.proofs.Laws.{sound-map}
use Rattle.month.proofs.Sanity.{narrowed-inside}
use Rattle.month.proofs.Tables.{table-passed, add-unsound, add-unfit, add_fit}
use Rattle.month.proofs.addable.Goals as goal

pub returns-in_err-sound : goal.returns-in_err-sound
returns-in_err-sound c = handed-on c.from_residual.ensures ∙ sym (add-unsound _ _ _ _ _ (sym c.sound.ensures ∙ c.in_err-sound.was))

pub ongoing-requires : goal.ongoing-requires
ongoing-requires c = ((sound-map _ _ _).0 (sym c.sound.ensures ∙ c.in_ok-sound.was)).sizes.small

pub returns-in_err-ongoing : goal.returns-in_err-ongoing
returns-in_err-ongoing c =
    handed-on c.from_residual-in_err-ongoing.ensures
    ∙ sym (add-unfit _ _ _ _ _ (sym c.sound.ensures ∙ c.in_ok-sound.was) (sym c.ongoing.ensures ∙ c.in_err-ongoing.was))

pub window_in-requires : goal.window_in-requires
window_in-requires c = (table-passed _ _ (sym c.ongoing.ensures ∙ c.in_ok-ongoing.was)).long

pub returns : goal.returns
returns c =
    let sound = sym c.sound.ensures ∙ c.in_ok-sound.was in
    let fits = sym c.ongoing.ensures ∙ c.in_ok-ongoing.was in
    let exact = c.window_in.ensures ∙ narrowed-inside (inside-12 ((sound-map _ _ _).0 sound).sizes.small (table-passed _ _ fits).sane.inside) in
    c.wide_enough.ensures ∙ rw exact (sym (add_fit _ _ _ _ _ sound fits))
