-- `report::report` meets its contract. Each test decides what its law in `Tables` says.
use mathlib.Core.Path.{refl, sym, ◌∙◌}
use mathlib.Core.Bool.{true}
use native.Mathlib.Omega.{arith}
use Rattle.answers.proofs.Laws.{handed-on}
use Rattle.window.proofs.Laws.{inside-12}
use Rattle.border.proofs.Laws.{filled-spent}
use Rattle.used.proofs.Laws.{use-known, use-same, use-whole}
use Rattle.report.proofs.Tables.{report-refused, report-short, report-done}
use Rattle.report.proofs.report.Goals as goal

pub returns-in_err-usable : goal.returns-in_err-usable
returns-in_err-usable c = rw (handed-on c.from_residual.ensures) (sym (report-refused _ _ _ _ _ _ _ _ (sym c.usable.ensures ∙ c.in_err-usable.was)))

pub overflow_add-window : goal.overflow_add-window
overflow_add-window c =
    let u = use-known true _ _ _ _ _ (sym c.usable.ensures ∙ c.in_ok-usable.was) in
    omega (arith, inside-12 u.small u.inside)

pub fill-requires : goal.fill-requires
fill-requires c = (omega arith, (use-known true _ _ _ _ _ (sym c.usable.ensures ∙ c.in_ok-usable.was)).wide)

pub returns-then-out-lt256 : goal.returns-then-out-lt256
returns-then-out-lt256 c =
    let ok = sym c.usable.ensures ∙ c.in_ok-usable.was in
    rw c.at.ensures (report-short _ _ _ _ _ _ _ _ ok (c.fill.ensures ∙ filled-spent _ _ (use-known true _ _ _ _ _ ok).wide) (omega (arith, c.if-out-lt256.true)))

pub count-requires : goal.count-requires
count-requires c =
    let ok = sym c.usable.ensures ∙ c.in_ok-usable.was in
    (use-known true _ _ _ _ _ ok, use-same true _ _ _ _ _ ok, refl, use-whole _ _ _ _ _ ok)

pub returns : goal.returns
returns c =
    report-done _ _ _ _ _ _ _ _ (sym c.usable.ensures ∙ c.in_ok-usable.was) c.count.ensures.1 (omega (arith, c.if-out-lt256.false)) c.count.ensures.0 c.put_totals.ensures
