-- `sparse::say` meets its contract, case by case.
use Rattle.sparse.proofs.say.Goals as goal

pub returns-then-looked : goal.returns-then-looked
returns-then-looked c = rw c.if-looked.true

pub returns-then-looked-2 : goal.returns-then-looked-2
returns-then-looked-2 c = rw (c.if-looked.false, c.if-looked-2.true)

pub returns : goal.returns
returns c = rw (c.if-looked.false, c.if-looked-2.false)
