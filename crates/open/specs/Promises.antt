-- The words in which it is said what an answer of opening tells.
-- Assumes nothing.
use Rattle.std.specs.Prelude.{◌≡◌, List, ℕ, ◌*◌, length, take}
use Rattle.window.specs.declared.Window.{Window}
use Rattle.window.specs.Window.{Inside}
use Rattle.map.specs.Sound.{Follow}
use Rattle.border.specs.Openings.{openings, handed_count, cells_of}

-- what an accepted call tells: the map is sound, the window inside, and the answer counts the list that was written
pub record Answered (m top : ℕ) (keys : List ℕ) (W : Window) (count records : ℕ) (out : List ℕ) : Type 0 where
  pub sound : Follow m 0 keys
  pub inside : Inside m W
  pub many : count ≡ length (openings m top keys W)
  pub records-are : records ≡ handed_count (openings m top keys W)
  pub list : take (3 * count) out ≡ cells_of (openings m top keys W)
