-- The words in which promises about bytes are said.
-- Assumes nothing.
use Rattle.std.specs.Prelude.{List, ℕ, ◌<◌, get_or}

-- each cell holds a number below n
pub record Below (n : ℕ) (cells : List ℕ) : Type 0 where
  pub at : (i : ℕ) → get_or cells i 0 < n
