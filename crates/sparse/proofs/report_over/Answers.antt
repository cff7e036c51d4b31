-- `sparse::report_over` meets its contract: the totals, behind refusals 6 to 8.
use mathlib.Core.Path.{refl, sym, ap, ◌∙◌}
use native.Mathlib.Omega.{arith}
use lib.ListN.{length}
use Rattle.answers.proofs.Laws.{handed-on}
use Rattle.window.proofs.Laws.{inside-12, pixels-most, totals-by-length}
use Rattle.report.proofs.Laws.{report-refused, report-short, report-done}
use Rattle.sparse.proofs.Over.{pair-view, pair-known}
use Rattle.sparse.proofs.report_over.Goals as goal

pub in_view-requires : goal.in_view-requires
in_view-requires c = c.requires.small

pub returns-in_err-in_view : goal.returns-in_err-in_view
returns-in_err-in_view c =
    rw (handed-on c.from_residual.ensures) (sym (report-refused _ _ _ _ _ _ _ _ (pair-view c.requires _ _ c.in_view.ensures c.in_err-in_view.was)))

-- where refusals 6 and 7 do not hold
pub spend-requires : goal.spend-requires
spend-requires c = let u = pair-known c.requires _ _ c.in_view.ensures c.in_ok-in_view.was in (inside-12 u.small u.inside, u.wide)

pub returns-then-out-lt256 : goal.returns-then-out-lt256
returns-then-out-lt256 c =
    let passed = pair-view c.requires _ _ c.in_view.ensures c.in_ok-in_view.was in
    rw c.at.ensures (report-short _ _ _ _ _ _ _ _ passed c.spend.ensures (omega (arith, c.if-out-lt256.true)))

pub add_up-requires : goal.add_up-requires
add_up-requires c = let u = pair-known c.requires _ _ c.in_view.ensures c.in_ok-in_view.was in (c.requires, u.inside, refl)

pub put_totals-requires : goal.put_totals-requires
put_totals-requires c =
    (ap length c.add_up.ensures ∙ totals-by-length _ _, omega (arith, c.if-out-lt256.false))

pub overflow_mul-result : goal.overflow_mul-result
overflow_mul-result c =
    let u = pair-known c.requires _ _ c.in_view.ensures c.in_ok-in_view.was in
    omega (arith, pixels-most c.args.window (inside-12 u.small u.inside))

pub returns : goal.returns
returns c =
    let passed = pair-view c.requires _ _ c.in_view.ensures c.in_ok-in_view.was in
    report-done _ _ _ _ _ _ _ _ passed c.spend.ensures (omega (arith, c.if-out-lt256.false)) c.add_up.ensures c.put_totals.ensures
