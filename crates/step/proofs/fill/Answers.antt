-- `step::fill` meets its contract: the part that is filled is put back among the other cells.
use Rattle.border.proofs.Loops.{filled-part}
use Rattle.step.proofs.fill.Goals as goal

pub returns : goal.returns
returns c = filled-part _ _ _ _ _ c.requires.0 c.requires.1 (c.fill.ensures.after (λ y e. e))
