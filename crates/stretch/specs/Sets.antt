-- Sets of places, and the largest block around a place that lies in one. A set is a test; a block of exponent i is 4 ^ i places from a multiple of 4 ^ i on.
-- Assumes nothing.
use Rattle.std.specs.Prelude.{Bool, true, ◌&&◌, ℕ, zero, suc, ◌*◌, ◌/◌, ◌^◌, leb, ltb, eqb}
use Rattle.lists.specs.Lists.{greatest}

-- q, down to a multiple of 4 ^ i: where its block of exponent i starts
unfoldable pub base : ℕ → ℕ → ℕ
base i q = q / 4 ^ i * 4 ^ i

-- the n places from a on are in the set
unfoldable pub full : (ℕ → Bool) → ℕ → ℕ → Bool
full P a zero = true
full P a (suc n) = P a && full P (suc a) n

-- q's block of exponent i lies in the set
unfoldable pub fits_in : (ℕ → Bool) → ℕ → ℕ → Bool
fits_in P i q = full P (base i q) (4 ^ i)

-- the exponent, at most m, of the largest block around q that lies in the set
unfoldable pub exponent_in : ℕ → (ℕ → Bool) → ℕ → ℕ
exponent_in m P q = greatest (λ i. fits_in P i q) m

-- q is the first place of that block
unfoldable pub starts : ℕ → (ℕ → Bool) → ℕ → Bool
starts m P q = P q && eqb (base (exponent_in m P q) q) q

-- the places from a up to b
unfoldable pub between : ℕ → ℕ → ℕ → Bool
between a b q = leb a q && ltb q b
