-- The key of a block by its exponent and the first place of its span.
-- Assumes nothing.
use Rattle.std.specs.Prelude.{ℕ, zero, suc, ◌+◌, ◌-◌, ◌*◌, ◌/◌, ◌%◌, ◌^◌}
use Rattle.key.specs.Key.{ones}

-- the key of the pixel at place q: m digits in base 5, each one more than that of the place in base 4, from the most significant on
unfoldable pub place_key : ℕ → ℕ → ℕ
place_key zero q = 0
place_key (suc k) q = (q / 4 ^ k + 1) * 5 ^ k + place_key k (q % 4 ^ k)

-- the key of the block of exponent i whose span starts at place s: i digits 1 below that of the pixel there
unfoldable pub span_key : ℕ → ℕ → ℕ → ℕ
span_key m i s = place_key m s - ones i
