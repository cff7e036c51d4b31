-- `house_read::layout` meets its contract: each test decides what its law in `Tables` says.
use mathlib.Core.Path.{sym, ◌∙◌}
use native.Mathlib.Omega.{arith}
use Rattle.answers.proofs.Laws.{sized, refusing, handed-on}
use Rattle.house.proofs.Loops.{layout-total, layout-refused, layout-length, layout-keys, layout-classes, laid}
use Rattle.house_read.proofs.layout.Goals as goal

pub returns-then-fields-size : goal.returns-then-fields-size
returns-then-fields-size c = refusing c.at.ensures (layout-total _ _ _ (λ e. c.if-fields-size.true (omega (arith, e))))

pub returns-in_err-sizes : goal.returns-in_err-sizes
returns-in_err-sizes c = handed-on c.from_residual.ensures ∙ sym (layout-refused _ _ _ (omega (arith, c.if-fields-size.false)) (sym c.sizes.ensures ∙ c.in_err-sizes.was))

pub returns-then-size-q : goal.returns-then-size-q
returns-then-size-q c =
    refusing c.at-then-size-q.ensures
    (layout-length _ _ _ (omega (arith, c.if-fields-size.false)) (sym c.sizes.ensures ∙ c.in_ok-sizes.was) (λ e. c.if-size-q.true (omega (arith, e))))

pub returns-then-fields-ne20 : goal.returns-then-fields-ne20
returns-then-fields-ne20 c =
    refusing c.at-then-fields-ne20.ensures
    (layout-keys _ _ _ (omega (arith, c.if-fields-size.false)) (sym c.sizes.ensures ∙ c.in_ok-sizes.was) (omega (arith, c.if-size-q.false))
    (λ e. c.if-fields-ne20.true (omega (arith, e))))

pub returns-then-fields-q : goal.returns-then-fields-q
returns-then-fields-q c =
    refusing c.at-then-fields-q.ensures
    (layout-classes _ _ _ (omega (arith, c.if-fields-size.false)) (sym c.sizes.ensures ∙ c.in_ok-sizes.was) (omega (arith, c.if-size-q.false))
    (omega (arith, c.if-fields-ne20.false)) (λ e. c.if-fields-q.true (omega (arith, e))))

pub returns : goal.returns
returns c =
    sym ((laid _ _ _).1 (record {
      total = omega (arith, c.if-fields-size.false);
      size = sized.0 (sym c.sizes.ensures ∙ c.in_ok-sizes.was);
      full = omega (arith, c.if-size-q.false);
      keys = omega (arith, c.if-fields-ne20.false);
      classes = omega (arith, c.if-fields-q.false);
    }))
