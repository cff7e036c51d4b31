-- The iterator over the maximal blocks of a window: what a call of its `next` does.
-- Assumes nothing.
use Rattle.std.specs.Prelude.{◌≡◌, Option}
use Rattle.window.specs.declared.Block.{Block}
use Rattle.window.specs.Walk.{Goes}
use Rattle.walk.specs.declared.MaximalBlocks.{MaximalBlocks}

-- a call at s gave r and left t: the walk went on, in the same window
pub record Steps (s : MaximalBlocks) (r : Option Block) (t : MaximalBlocks) : Type 0 where
  pub window : t.window ≡ s.window
  pub top : t.top ≡ s.top
  pub goes : Goes s.window s.top (s.row, s.col) r (t.row, t.col)
