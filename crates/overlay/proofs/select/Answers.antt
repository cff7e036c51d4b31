-- `overlay::select` meets its contract: behind the check of both maps.
use mathlib.Core.Path.{sym, ◌∙◌}
use Rattle.answers.proofs.Laws.{handed-on}
use Rattle.overlay.specs.Overlay.{of_both, select_over}
use Rattle.overlay.proofs.Pairs.{paired, over-refused, over-told}
use Rattle.overlay.proofs.select.Goals as goal

pub returns-in_err-check_pair : goal.returns-in_err-check_pair
unfolding select_over
returns-in_err-check_pair c = rw (handed-on c.from_residual.ensures) (over-refused of_both _ _ (sym c.check_pair.ensures ∙ c.in_err-check_pair.was))

-- both are sound
pub select_pair-requires : goal.select_pair-requires
select_pair-requires c = paired _ _ _ _ _ _ (sym c.check_pair.ensures ∙ c.in_ok-check_pair.was)

pub returns-in_err-count : goal.returns-in_err-count
unfolding select_over
returns-in_err-count c =
    rw (handed-on c.from_residual-in_err-count.ensures)
    (over-told of_both _ _ (sym c.check_pair.ensures ∙ c.in_ok-check_pair.was) (rw c.in_err-count.was at c.select_pair.ensures))

pub returns : goal.returns
unfolding select_over
returns c = over-told of_both _ _ (sym c.check_pair.ensures ∙ c.in_ok-check_pair.was) (rw c.in_ok-count.was at c.select_pair.ensures)
