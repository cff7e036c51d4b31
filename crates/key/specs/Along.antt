-- Along the keys, from block to block: the place that is reached, and the largest block that starts there.
-- Assumes nothing.
use Rattle.std.specs.Prelude.{Option, None, Some, ◌≡◌, ◌↔◌, List, map, ℕ, ◌+◌, ◌%◌, ◌^◌, ◌≤◌, ◌<◌, get_or}
use Rattle.lists.specs.Lists.{up_from}
use Rattle.key.specs.declared.Spot.{Spot}
use Rattle.key.specs.Key.{ones}
use Rattle.key.specs.Blocks.{Names}

-- digits 1, as many as an exponent says, by a table
unfoldable pub ones_table : List ℕ
ones_table = map ones (up_from 0 13)

-- a table that tells i from the remainder of `ones i` by 16
pub record TellsOnes (table : List ℕ) : Type 0 where
  pub small : (x : ℕ) → x < 16 → get_or table x 0 ≤ 12
  pub finds : (i : ℕ) → i ≤ 12 → get_or table (ones i % 16) 0 ≡ i

-- the key of the pixel where the walk stands: that of the first pixel of the largest block that starts there
abbrev pub pixel_at : Spot → ℕ
pixel_at s = s.key + ones s.top

-- the walk stands at a place, or behind the last one: with the key of the largest block that starts there, and its exponent, the greatest of a block that may start there
pub record Stands (m : ℕ) (s : Spot) : Type 0 where
  pub within : s.place ≤ 4 ^ m
  pub largest : s.place < 4 ^ m → Names m s.key s.top s.place
  pub cap : s.top ≤ m
  pub aligned : (i : ℕ) → i ≤ m → (i ≤ s.top) ↔ (s.place % 4 ^ i ≡ 0)

-- the key is that of a block that starts at place p, or of none
pub data ToldFit (m p key : ℕ) : Option ℕ → Type 0 where
  block : {i : ℕ} → Names m key i p → ToldFit m p key (Some i)
  other : ((i : ℕ) → Names m key i p → ⊥) → ToldFit m p key None

-- the key is that of a block that starts at place p
pub record Begins (m p key : ℕ) : Type 0 where
  pub exponent : ℕ
  pub names : Names m key exponent p
