-- `house_write::write` meets its contract: each test decides what its law in `Tables` says.
use mathlib.Core.Path.{sym, ap, ◌∙◌}
use native.Mathlib.Omega.{arith}
use Rattle.answers.specs.After.{after}
use Rattle.answers.proofs.Laws.{sized, sized-sparse, refusing-after, handed-after}
use Rattle.house.proofs.Loops.{write-refused, write-no-room, write_done}
use Rattle.house_write.proofs.write.Goals as goal

pub returns-in_err-sizes : goal.returns-in_err-sizes
returns-in_err-sizes c = handed-after c.from_residual.ensures (write-refused _ _ _ _ _ (sym c.sizes.ensures ∙ c.in_err-sizes.was))

pub overflow_cast-size : goal.overflow_cast-size
overflow_cast-size c = omega (arith, (sized.0 (sym c.sizes.ensures ∙ c.in_ok-sizes.was)).most)

pub returns-then-out-size : goal.returns-then-out-size
returns-then-out-size c = refusing-after c.at.ensures (write-no-room _ _ _ _ _ (sym c.sizes.ensures ∙ c.in_ok-sizes.was) (omega (arith, c.if-out-size.true)))

pub put_parts-requires : goal.put_parts-requires
put_parts-requires c = (sized-sparse (sized.0 (sym c.sizes.ensures ∙ c.in_ok-sizes.was)), omega (arith, c.if-out-size.false))

pub overflow_cast-result : goal.overflow_cast-result
overflow_cast-result c = omega (arith, (sized.0 (sym c.sizes.ensures ∙ c.in_ok-sizes.was)).most)

pub returns : goal.returns
returns c = ap (after _) c.put_parts.ensures ∙ sym (write_done _ _ _ _ _ (sym c.sizes.ensures ∙ c.in_ok-sizes.was) (omega (arith, c.if-out-size.false)))
