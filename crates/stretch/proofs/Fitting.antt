-- Words of the laws about sets of places: a block that lies in one.
-- Assumes nothing.
use mathlib.Core.Path.{◌≡◌}
use mathlib.Core.Bool.{Bool, true}
use Prim.Native.Nat.{ℕ, ◌^◌}
use Rattle.key.specs.Blocks.{Among}
use Rattle.stretch.specs.Sets.{base}

-- in plain words
pub record FitsIn (P : ℕ → Bool) (i q : ℕ) : Type 0 where
  pub all : (x : ℕ) → Among (base i q) (4 ^ i) x → P x ≡ true
