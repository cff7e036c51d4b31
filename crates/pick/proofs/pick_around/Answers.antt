-- `pick::pick_around` meets its contract.
use Rattle.answers.proofs.Laws.{listed-none, listed-one}
use Rattle.pick.proofs.Picking.{around-has, around-not}
use Rattle.pick.proofs.pick_around.Goals as goal

pub returns-then-classes-around : goal.returns-then-classes-around
returns-then-classes-around c = rw (c.put.ensures, around-has _ _ _ _ c.if-classes-around.true) (listed-one _ _ _)

pub returns : goal.returns
returns c = rw (around-not _ _ _ _ c.if-classes-around.false) (listed-none _ _)
