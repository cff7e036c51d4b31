-- `many::count` meets its contract.
use mathlib.Core.Path.{sym, ap, ◌∙◌}
use native.Mathlib.Omega.{arith}
use Rattle.answers.specs.After.{after}
use Rattle.answers.proofs.Laws.{handed-on, on-passed, on-refused}
use Rattle.many.proofs.Windows.{windows-length}
use Rattle.many.proofs.Border.{widest-wider}
use Rattle.many.proofs.Tables.{many-askable, many_is}
use Rattle.many.proofs.count.Goals as goal

pub returns-in_err-askable : goal.returns-in_err-askable
returns-in_err-askable c =
    ap (λ r. after r (c.args.border.now, c.args.out.now)) (handed-on c.from_residual.ensures)
    ∙ sym (many_is _ _ _ _ _ _ ∙ on-refused _ _ _ (sym c.askable.ensures ∙ c.in_err-askable.was))

pub put_lines-requires : goal.put_lines-requires
put_lines-requires c =
    let A = (many-askable _ _ _ _ _ _).0 (sym c.askable.ensures ∙ c.in_ok-askable.was) in
    (rw A.sound.sizes.same A.sound, (widest-wider _ _ _).1 A.wide, A.room)

pub overflow_cast-result : goal.overflow_cast-result
overflow_cast-result c =
    let A = (many-askable _ _ _ _ _ _).0 (sym c.askable.ensures ∙ c.in_ok-askable.was) in
    omega (arith, A.list.few, windows-length c.args.windows.now)

pub returns : goal.returns
returns c =
    let p = c.put_lines.ensures in
    rw (p.0, p.1, ← windows-length c.args.windows.now) (sym (many_is _ _ _ _ _ _ ∙ on-passed _ _ _ (sym c.askable.ensures ∙ c.in_ok-askable.was)))
