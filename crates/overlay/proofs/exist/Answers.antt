-- `overlay::exist` meets its contract: behind the check of both maps.
use mathlib.Core.Path.{sym, ◌∙◌}
use Rattle.answers.proofs.Laws.{handed-on}
use Rattle.overlay.specs.Overlay.{of_both, exist_over}
use Rattle.overlay.proofs.Pairs.{paired, over-refused, over-told}
use Rattle.overlay.proofs.exist.Goals as goal

pub returns-in_err-check_pair : goal.returns-in_err-check_pair
unfolding exist_over
returns-in_err-check_pair c = rw (handed-on c.from_residual.ensures) (over-refused of_both _ _ (sym c.check_pair.ensures ∙ c.in_err-check_pair.was))

-- both are sound
pub exist_over-requires : goal.exist_over-requires
exist_over-requires c = paired _ _ _ _ _ _ (sym c.check_pair.ensures ∙ c.in_ok-check_pair.was)

pub returns-in_err-existence : goal.returns-in_err-existence
unfolding exist_over
returns-in_err-existence c =
    rw (handed-on c.from_residual-in_err-existence.ensures)
    (over-told of_both _ _ (sym c.check_pair.ensures ∙ c.in_ok-check_pair.was) (rw c.in_err-existence.was at c.exist_over.ensures))

pub returns : goal.returns
unfolding exist_over
returns c = over-told of_both _ _ (sym c.check_pair.ensures ∙ c.in_ok-check_pair.was) (rw c.in_ok-existence.was at c.exist_over.ensures)
