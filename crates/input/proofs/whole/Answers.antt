-- `input::whole` meets its contract.
use mathlib.Core.Path.{sym, ◌∙◌}
use lib.Seq.{length-take-le}
use Rattle.input.proofs.Sizes.{announced-bounds, whole-none, whole-cut, whole-all}
use Rattle.input.proofs.whole.Goals as goal
use Rattle.input.proofs.whole.Goals.{in_default-via-in-Some+else-size-got, in_default-via-in_default}

pub slice_bounds-result-end : goal.slice_bounds-result-end
slice_bounds-result-end c = sym (length-take-le _ _ (announced-bounds _ (sym c.announced.ensures ∙ c.in-Some.is)).1)

pub returns-in-Some : goal.returns-in-Some
returns-in-Some c = sym (whole-all _ _ (sym c.announced.ensures ∙ c.in-Some.is) c.if-size-got.true)

pub returns-in_default : goal.returns-in_default
returns-in_default c = elim c.in_default.branch [
  | in_default-via-in-Some+else-size-got w ↦ sym (whole-cut _ _ (sym c.announced.ensures ∙ w.in-Some.is) w.if-size-got.false)
  | in_default-via-in_default w ↦ sym (whole-none _ _ (sym c.announced.ensures ∙ w.in_default.is))
]
