-- `sparse::spend` meets its contract: what is filled is the border's part for the window.
use Rattle.std.proofs.Common.{rules}
use Rattle.select.proofs.Laws.{part-spent}
use Rattle.sparse.proofs.spend.Goals as goal

pub returns : goal.returns
returns c = part-spent _ _ _ c.requires.1 (c.fill.ensures.after (λ y e. search rules))
