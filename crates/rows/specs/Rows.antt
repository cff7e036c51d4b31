-- The rows of a month's table, one for each class: behind the first six cells, four cells to a row.
-- Assumes nothing.
use Rattle.std.specs.Prelude.{Bool, cond, ◌||◌, List, [], ◌∷◌, ℕ, min, max, ◌+◌, ◌*◌, eqb, ltb, get_or}
use Rattle.lists.specs.Lists.{up_from, any}

-- of one class: the least and the greatest number of its pixels in a map, their sum over the maps, and in how many maps it occurs
pub record Row : Type 0 where
  pub least : ℕ
  pub greatest : ℕ
  pub sum : ℕ
  pub maps : ℕ

abbrev pub row : ℕ → ℕ → ℕ → ℕ → Row
row least greatest sum maps = record { least = least; greatest = greatest; sum = sum; maps = maps }

-- rows in their cells, four to each
unfoldable pub row_cells : List Row → List ℕ
row_cells [] = []
row_cells (x ∷ xs) = x.least ∷ x.greatest ∷ x.sum ∷ x.maps ∷ row_cells xs

-- and the row of a class, from any cells of a table
abbrev pub row_in : List ℕ → ℕ → Row
row_in table class = let at = 6 + 4 * class in row (get_or table at 0) (get_or table (at + 1) 0) (get_or table (at + 2) 0) (get_or table (at + 3) 0)

-- a map more, which has n pixels of the class. The first map sets the least and the greatest
unfoldable pub with_map : Bool → ℕ → Row → Row
with_map first n x = row (cond first n (min x.least n)) (cond first n (max x.greatest n)) (x.sum + n) (x.maps + cond (eqb n 0) 0 1)

-- a class has a greater sum than so many pixels, or more maps than were added
unfoldable pub over : ℕ → ℕ → Row → Bool
over most maps x = ltb most x.sum || ltb maps x.maps

-- some class of a table is so, by its count of maps and its window's pixels
unfoldable pub any_over : ℕ → ℕ → List ℕ → Bool
any_over most maps table = any (λ class. over most maps (row_in table class)) (up_from 0 256)
