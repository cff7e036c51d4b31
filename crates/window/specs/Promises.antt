-- The words in which the promises about maximal blocks and about the largest block at a pixel are said.
-- Assumes nothing.
use Rattle.std.specs.Prelude.{◌≡◌, ℕ, ◌+◌, ◌^◌, ◌≤◌, ◌<◌}
use Rattle.key.specs.Picture.{Px}
use Rattle.key.specs.Key.{block_key}
use Rattle.key.specs.Alignment.{alignment}
use Rattle.window.specs.declared.Window.{Window}
use Rattle.window.specs.Window.{In}
use Rattle.window.specs.Blocks.{floor}

-- p and q lie in one block of side 2 ^ i
pub record Same (i : ℕ) (p q : Px) : Type 0 where
  pub row : floor i p.0 ≡ floor i q.0
  pub col : floor i p.1 ≡ floor i q.1

-- in plain words: the block of exponent i with corner p lies in the window, and no larger block that lies in the window contains it
pub record Maximal (W : Window) (top i : ℕ) (p : Px) : Type 0 where
  pub small : i ≤ top
  pub row : floor i p.0 ≡ p.0
  pub col : floor i p.1 ≡ p.1
  pub inside : (q : Px) → Same i p q → In W q
  pub largest : (j : ℕ) → i < j → j ≤ top → ((q : Px) → Same j p q → In W q) → ⊥

-- the key is that of such a block
pub record MaximalKey (m top : ℕ) (W : Window) (key : ℕ) : Type 0 where
  pub exponent : ℕ
  pub corner : Px
  pub maximal : Maximal W top exponent corner
  pub is : key ≡ block_key m exponent corner.0 corner.1

-- p stands before q, by row and then by column
pub data Before (p q : Px) : Type 0 where
  above : p.0 < q.0 → Before p q
  beside : p.0 ≡ q.0 → p.1 < q.1 → Before p q

-- the block of side 2 ^ i may start at p: i is at most the smaller alignment of its row and column, and it ends where the window does, or before. Alignments are cut at `top`, which
-- is m where blocks may be as large as the picture
pub record BlockAt (W : Window) (top i : ℕ) (p : Px) : Type 0 where
  pub row : i ≤ alignment top p.0
  pub col : i ≤ alignment top p.1
  pub bottom : p.0 + 2 ^ i ≤ W.r0 + W.h
  pub right : p.1 + 2 ^ i ≤ W.c0 + W.w

-- and no larger one may
pub record Largest (W : Window) (top i : ℕ) (p : Px) : Type 0 where
  pub at : BlockAt W top i p
  pub most : (j : ℕ) → BlockAt W top j p → j ≤ i
