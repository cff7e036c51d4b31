-- What the functions on the way there promise.
-- Assumes nothing.
use Rattle.std.specs.Prelude.{◌≡◌, Option, List, ℕ, ◌+◌, ◌^◌, leb}
use Rattle.lists.specs.Promises.{Nth}
use Rattle.key.specs.Picture.{Px}
use Rattle.window.specs.declared.Window.{Window}
use Rattle.border.specs.Openings.{Opening}
use Rattle.why.specs.declared.Side.{Side}
use Rattle.why.specs.declared.Brought.{Brought}
use Rattle.why.specs.Why.{first_side, bringer}

-- on which side of the window the block of side 2 ^ i with corner p lies, or on none
unfoldable pub square_lies : Window → ℕ → Px → Option Side
square_lies W i p = first_side (leb (p.0 + 2 ^ i) W.r0) (leb (W.r0 + W.h) p.0) (leb (p.1 + 2 ^ i) W.c0) (leb (W.c0 + W.w) p.1)

-- the number of the first opening that hands out record n, or of all where none does, and the key of its block
pub record Brings (os : List Opening) (n : ℕ) (r : Brought) : Type 0 where
  pub number : r.opening ≡ bringer os n
  pub key-is : (o : Opening) → Nth os r.opening o → r.key ≡ o.key
