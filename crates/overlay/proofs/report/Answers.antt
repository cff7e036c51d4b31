-- `overlay::report` meets its contract: behind the check of both maps.
use mathlib.Core.Path.{sym, ◌∙◌}
use Rattle.answers.proofs.Laws.{handed-on}
use Rattle.overlay.specs.Overlay.{of_both, report_over}
use Rattle.overlay.proofs.Pairs.{paired, over-refused, over-told}
use Rattle.overlay.proofs.report.Goals as goal

pub returns-in_err-check_pair : goal.returns-in_err-check_pair
unfolding report_over
returns-in_err-check_pair c = rw (handed-on c.from_residual.ensures) (over-refused of_both _ _ (sym c.check_pair.ensures ∙ c.in_err-check_pair.was))

-- both are sound
pub report_over-requires : goal.report_over-requires
report_over-requires c = paired _ _ _ _ _ _ (sym c.check_pair.ensures ∙ c.in_ok-check_pair.was)

pub returns-in_err-pixels : goal.returns-in_err-pixels
unfolding report_over
returns-in_err-pixels c =
    rw (handed-on c.from_residual-in_err-pixels.ensures)
    (over-told of_both _ _ (sym c.check_pair.ensures ∙ c.in_ok-check_pair.was) (rw c.in_err-pixels.was at c.report_over.ensures))

pub returns : goal.returns
unfolding report_over
returns c = over-told of_both _ _ (sym c.check_pair.ensures ∙ c.in_ok-check_pair.was) (rw c.in_ok-pixels.was at c.report_over.ensures)
