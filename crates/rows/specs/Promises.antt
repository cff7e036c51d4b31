-- The words in which it is said what a row means.
-- Assumes nothing.
use Rattle.std.specs.Prelude.{List, ℕ, ltb}
use Rattle.lists.specs.Promises as numbers
use Rattle.lists.specs.Promises.{least_of}
use Rattle.lists.specs.Lists.{greatest_of, how_many}
use Rattle.rows.specs.Rows.{Row, row}

-- the row of a class, from the numbers of its pixels, map by map
unfoldable pub row_of : List ℕ → Row
row_of ns = row (least_of ns) (greatest_of ns) (numbers.sum ns) (how_many (ltb 0) ns)
