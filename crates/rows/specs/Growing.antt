-- What the loops over the rows of a table go by.
-- Assumes nothing.
use Rattle.std.specs.Prelude.{◌≡◌, Bool, List, ◌++◌, map, ℕ, ◌+◌, ◌*◌, ◌^◌, ◌≤◌, ◌<◌, length, get_or, set, take}
use Rattle.lists.specs.Lists.{up_from}
use Rattle.answers.specs.Cells.{overwrite}
use Rattle.rows.specs.Rows.{Row, row_in, row_cells, with_map}

-- the row of a class is written into its cells
unfoldable pub put_row : ℕ → Row → List ℕ → List ℕ
put_row class x table = let at = 6 + 4 * class in set (set (set (set table at x.least) (at + 1) x.greatest) (at + 2) x.sum) (at + 3) x.maps

-- a class's row, with a map more that has so many pixels of each class
abbrev pub grown : Bool → List ℕ → List ℕ → ℕ → Row
grown first counts table class = with_map first (get_or counts class 0) (row_in table class)

-- the rows of all classes, each with a map more; the first six cells stay as they were
unfoldable pub grow_rows : Bool → List ℕ → List ℕ → List ℕ
grow_rows first counts table = overwrite (take 6 table ++ row_cells (map (grown first counts table) (up_from 0 256))) table

-- there is room for another map in the row of a class
pub record Fits (x : Row) : Type 0 where
  pub sums : x.sum < 2 ^ 63
  pub counts : x.maps < 2 ^ 63

-- and in those of all, for a map that has so many pixels of each class
pub record AllFit (counts table : List ℕ) : Type 0 where
  pub long : 1030 ≤ length table
  pub each : length counts ≡ 256
  pub small : (class : ℕ) → class < 256 → get_or counts class 0 ≤ 16777216
  pub fits : (class : ℕ) → class < 256 → Fits (row_in table class)
