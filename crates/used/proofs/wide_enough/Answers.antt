-- `used::wide_enough` meets its contract.
use mathlib.Core.Path.{sym}
use Rattle.answers.proofs.Laws.{refusing}
use Rattle.used.proofs.Use.{border-passed, border-refused}
use Rattle.used.proofs.wide_enough.Goals as goal

pub returns-then-cells-w : goal.returns-then-cells-w
returns-then-cells-w c = refusing c.at.ensures (border-refused _ _ c.if-cells-w.true)

pub returns : goal.returns
returns c = sym ((border-passed _ _).1 c.if-cells-w.false)
