-- What a key is read by from the small end: the zeros that it ends in, and its digits by twos; of a block's key, where its span starts.
-- Assumes nothing.
use Rattle.std.specs.Prelude.{cond, eqb, Option, None, Some, ◌≡◌, List, map, ℕ, zero, suc, ◌+◌, ◌-◌, ◌*◌, ◌/◌, ◌%◌, ◌^◌, ◌≤◌, ◌<◌}
use Rattle.lists.specs.Lists.{up_from}
use Rattle.key.specs.declared.Span.{Span}
use Rattle.key.specs.Form.{form_of}

-- a number is what is left and so many zeros behind it, and of the zeros that it ends in fewer than b are left
pub record Strips (b key zeros rest : ℕ) : Type 0 where
  pub is : key ≡ rest * 5 ^ zeros
  pub fewer : rest % 5 ^ b ≡ 0 → ⊥

-- the place of a pixel among 16, or 16
unfoldable pub place_or16 : Option Span → ℕ
place_or16 (Some b) = cond (eqb b.exponent 0) b.start 16
place_or16 None = 16

-- two digits as a key of their own: the pixel's place, or 16 where one of them is 0, by a table
unfoldable pub pairs_table : List ℕ
pairs_table = map (λ (x : ℕ). place_or16 (form_of 2 x)) (up_from 0 25)

-- a number of m digits ends in r zeros, and in no more
pub record EndsIn (m key r : ℕ) : Type 0 where
  pub most : r ≤ m
  pub zeros : key % 5 ^ r ≡ 0
  pub no_more : r < m → key % 5 ^ suc r ≡ 0 → ⊥

-- where the span of a block starts, by the last n digits of its key: each counts for its quadrant, and the zeros for none
unfoldable pub start_up : ℕ → ℕ → ℕ
start_up zero key = 0
start_up (suc n) key = key % 5 - 1 + 4 * start_up n (key / 5)

-- two digits, by a table
unfoldable pub starts_table : List ℕ
starts_table = map (λ (x : ℕ). start_up 2 x) (up_from 0 25)
