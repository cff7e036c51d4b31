-- `stretch::put_between` meets its contract.
use Rattle.answers.proofs.Laws.{listed-none}
use Rattle.stretch.proofs.Steps.{stretch-none}
use Rattle.stretch.proofs.put_between.Goals as goal

pub returns-then-b-a : goal.returns-then-b-a
returns-then-b-a c = rw (stretch-none _ c.if-b-a.true) (listed-none _ _)
