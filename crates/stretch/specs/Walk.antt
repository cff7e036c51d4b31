-- A stretch from its start on: the largest block that may come next, and the walk from block to block.
-- Assumes nothing.
use Rattle.std.specs.Prelude.{◌≡◌, ◌∷◌, ℕ, ◌^◌, ◌≤◌, ◌<◌, leb}
use Rattle.lists.specs.Lists.{greatest}
use Rattle.key.specs.declared.Spot.{Spot}
use Rattle.key.specs.Along.{Stands}
use Rattle.stretch.specs.Fewest.{stretch}

-- of the exponents up to top, the greatest of a block with no more than so many places
unfoldable pub largest : ℕ → ℕ → ℕ
largest top places = greatest (λ i. leb (4 ^ i) places) top

-- of the blocks that make up the places from a up to b, the first has this key; behind it the walk stands at s, and the others are those from there on
pub record Lays (m a b key : ℕ) (s : Spot) : Type 0 where
  pub first : stretch m a b ≡ key ∷ stretch m s.place b
  pub onward : a < s.place
  pub within : s.place ≤ b
  pub stands : Stands m s
