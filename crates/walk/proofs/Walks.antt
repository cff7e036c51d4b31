-- A loop over the maximal blocks of a window: which have come, what is told of the next, and that at the end all have come.
-- Assumes nothing.
use mathlib.Core.Path.{◌≡◌, ◌∙◌}
use mathlib.Core.List.{List, [], ◌∷◌, ◌++◌}
use Prim.Native.Nat.{ℕ}
use Rattle.std.specs.Prelude.{Some, None}
use Rattle.key.specs.Picture.{Px}
use Rattle.window.specs.declared.Block.{Block}
use Rattle.window.specs.declared.Window.{Window}
use Rattle.window.specs.Window.{Inside}
use Rattle.window.specs.Blocks.{maximal}
use Rattle.window.specs.Walk.{corner_of, Walked, GoesOn, Ends}
use Rattle.window.proofs.Laws.{walked-first, walked_next, walked-last}
use Rattle.walk.specs.declared.MaximalBlocks.{MaximalBlocks}
use Rattle.walk.specs.Steps.{Steps}

-- the blocks of the list `past` have come, by their corners, and s stands behind them
pub record Walks (W : Window) (top : ℕ) (past : List Px) (s : MaximalBlocks) : Type 0 where
  pub same_window : s.window ≡ W
  pub same_top : s.top ≡ top
  pub walked : Walked W top past (s.row, s.col)

module _ {W : Window} {top : ℕ} where
  pub walks-first : {m : ℕ} {s : MaximalBlocks} → Inside m W → (s.window ≡ W) × (s.top ≡ top) × (s.row ≡ W.r0) × (s.col ≡ W.c0) → Walks W top [] s
  walks-first I e = record { same_window = e.0; same_top = e.1; walked = rw (e.2, e.3) (walked-first I) }

  module _ {past : List Px} {s : MaximalBlocks} (k : Walks W top past s) where
    pub walks-goes : {b : Block} {t : MaximalBlocks} → Steps s (Some b) t → GoesOn W top (s.row, s.col) b (t.row, t.col)
    walks-goes g = rw (k.same_window, k.same_top) at g.goes

    pub walks-next : {b : Block} {t : MaximalBlocks} → Steps s (Some b) t → Walks W top (past ++ (corner_of b ∷ [])) t
    walks-next g = record { same_window = g.window ∙ k.same_window; same_top = g.top ∙ k.same_top; walked = walked_next k.walked (walks-goes g) }

    pub walks-last : {t : MaximalBlocks} → Steps s None t → maximal W top ≡ past
    walks-last {t} g = let e : Ends W top (s.row, s.col) (t.row, t.col) = rw (k.same_window, k.same_top) at g.goes in walked-last k.walked e
