-- `input::put_left` meets its contract.
use mathlib.Core.Path.{sym}
use native.Mathlib.Omega.{arith}
use Rattle.text.proofs.Laws.{put-empty}
use Rattle.input.proofs.Windows.{left-silent, left-some}
use Rattle.input.proofs.put_left.Goals as goal

pub returns-then-got-eq0 : goal.returns-then-got-eq0
returns-then-got-eq0 c = rw ((left-silent c.args.got).1 c.if-got-eq0.true) (sym (put-empty _))

pub returns : goal.returns
returns c = rw (left-some c.args.got (omega (arith, c.if-got-eq0.false))) (rw c.number.ensures at c.put_refusal.ensures)
