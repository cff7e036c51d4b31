-- `lines::put_class` meets its contract.
use mathlib.Core.Path.{sym}
use Rattle.text.proofs.Laws.{put-empty}
use Rattle.lines.proofs.Turns.{class-none, class-some}
use Rattle.lines.proofs.put_class.Goals as goal

pub returns-then-pixels-eq0 : goal.returns-then-pixels-eq0
returns-then-pixels-eq0 c = rw (class-none c.args.class c.if-pixels-eq0.true) (sym (put-empty _))

pub returns : goal.returns
returns c = rw (class-some c.args.class c.if-pixels-eq0.false) c.put_line.ensures
