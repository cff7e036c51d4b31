-- Words of the laws about windows: a block that lies in one.
-- Assumes nothing.
use Prim.Native.Nat.{ℕ, ◌+◌, ◌^◌, ◌≤◌}
use Rattle.key.specs.Picture.{Px}
use Rattle.window.specs.declared.Window.{Window}
use Rattle.window.specs.Blocks.{floor}

-- p's block of side 2 ^ i lies in the window
pub record Fits (W : Window) (i : ℕ) (p : Px) : Type 0 where
  pub top : W.r0 ≤ floor i p.0
  pub bottom : floor i p.0 + 2 ^ i ≤ W.r0 + W.h
  pub left : W.c0 ≤ floor i p.1
  pub right : floor i p.1 + 2 ^ i ≤ W.c0 + W.w
