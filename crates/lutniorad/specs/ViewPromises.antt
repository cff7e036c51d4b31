-- What is promised of openings on two maps with the same view through a window: of the numbers that two answered calls returned, and of the cells that they left.
-- Assumes nothing.
use Rattle.std.specs.Prelude.{◌≡◌, List, ℕ, ◌+◌, ◌*◌, ◌<◌, get_or}
use Rattle.border.specs.ViewPromises.{opening_in, brought}
use Rattle.lutniorad.specs.declared.Answer.{Answer}

-- only the first indices may differ, and the records there are the same
pub record SameOpened (keys classes keys' classes' : List ℕ) (r r' : Answer) (out out' : List ℕ) : Type 0 where
  -- the numbers of openings and of records
  pub numbers : r ≡ r'
  -- the key of each opening, and its count
  pub opened : (j : ℕ) → j < r.first → get_or out (3 * j) 0 ≡ get_or out' (3 * j) 0
  pub counts : (j : ℕ) → j < r.first → get_or out (3 * j + 2) 0 ≡ get_or out' (3 * j + 2) 0
  -- and what it brings: so many records from its first index on, each by key and class
  pub brings : (j : ℕ) → j < r.first → brought keys classes (opening_in out j) ≡ brought keys' classes' (opening_in out' j)
