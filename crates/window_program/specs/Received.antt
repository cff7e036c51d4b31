-- How many bytes of a file came.
-- Assumes nothing.
use Rattle.std.specs.Prelude.{List, ℕ, ◌≤◌, ◌<◌, IsSomeAnd}
use Rattle.io.specs.Counts.{IsPrefixLen}
use Rattle.input.specs.Input.{announced_of}

-- so many bytes came: no more than four, or no more than the first four announce
pub record Received (got : ℕ) (bytes : List ℕ) : Type 0 where
  pub counts : IsPrefixLen got bytes
  pub few : 4 < got → IsSomeAnd (announced_of bytes) (λ size. got ≤ size)
