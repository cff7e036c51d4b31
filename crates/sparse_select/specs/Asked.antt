-- What is asked to list a block of a map with gaps, where the class is that of the background.
-- Assumes nothing.
use Rattle.std.specs.Prelude.{◌≡◌, List, ℕ, ◌+◌, ◌≤◌, ◌<◌, length}
use Rattle.map.specs.declared.Run.{Run}
use Rattle.map.specs.Sound.{Spaced}
use Rattle.map.specs.Runs.{run_of}
use Rattle.sparse_select.specs.Select.{sparse_selected}

-- a map that can be used, the records that overlap the block of a key, and n others, so few that all can be counted
pub record Asked (m : ℕ) (keys classes : List ℕ) (class key : ℕ) (run : Run) (n : ℕ) : Type 0 where
  pub small : m ≤ 12
  pub few : length keys ≤ 65536
  pub same : length keys ≡ length classes
  pub spaced : Spaced m 0 keys
  pub is : run ≡ run_of m keys key
  pub room : n + length (sparse_selected m class keys classes class key) < 4294967295
