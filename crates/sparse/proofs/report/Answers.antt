-- `sparse::report` meets its contract: over a baseline of one record, behind refusals 1 to 4.
use mathlib.Core.Path.{sym, ◌∙◌}
use Rattle.answers.proofs.Laws.{handed-on}
use Rattle.used.proofs.Laws.{use-refused}
use Rattle.report.proofs.Laws.{report-refused}
use Rattle.sparse.proofs.Over.{one-over, one-report}
use Rattle.sparse.proofs.report.Goals as goal

pub returns-in_err-sound : goal.returns-in_err-sound
returns-in_err-sound c =
    rw (handed-on c.from_residual.ensures) (sym (report-refused _ _ _ _ _ _ _ _ (use-refused _ _ _ _ _ _ (sym c.sound.ensures ∙ c.in_err-sound.was))))

pub report_over-requires : goal.report_over-requires
report_over-requires c = one-over _ _ _ (sym c.sound.ensures ∙ c.in_ok-sound.was)

pub returns : goal.returns
returns c = c.report_over.ensures ∙ one-report _ _ _ (sym c.sound.ensures ∙ c.in_ok-sound.was) _ _ _ _
