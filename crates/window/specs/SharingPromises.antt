-- Windows that share pixels: union and intersection of two windows, by pixels and by edges, and windows that part another.
-- Assumes nothing.
use Rattle.std.specs.Prelude.{◌≡◌, ◌↔◌, ◌⊎◌, ℕ, min, max, ◌+◌, ◌-◌, ◌*◌}
use mathlib.Core.List.{List, Memᴰ}
use Rattle.lists.specs.Lists.{Ordered}
use Rattle.key.specs.Picture.{Px}
use Rattle.window.specs.declared.Window.{Window}
use Rattle.window.specs.Window.{In, window}

-- ---- by pixels

-- the union of A and B is a rectangle, the window U: it has a pixel exactly when A or B has it
abbrev pub Union : Window → Window → Window → Type 0
Union A B U = (p : Px) → In U p ↔ (In A p ⊎ In B p)

-- the window I is their intersection: it has a pixel exactly when both have it
abbrev pub Intersection : Window → Window → Window → Type 0
Intersection A B I = (p : Px) → In I p ↔ (In A p × In B p)

-- they overlap: some pixel is in both
abbrev pub Overlapping : Window → Window → Type 0
Overlapping A B = (p : Px) × In A p × In B p

-- they share no pixel
abbrev pub Disjoint : Window → Window → Type 0
Disjoint A B = (p : Px) → In A p → In B p → ⊥

-- windows that part U into rectangles: each of its pixels is in one of them, each of theirs is in U, and no two share a pixel
pub record Parted (U : Window) (parts : List Window) : Type 0 where
  pub all : (p : Px) → In U p ↔ ((W : Window) × Memᴰ W parts × In W p)
  pub once : Ordered Disjoint parts

-- ---- by edges

-- the east side of A is the west side of B
pub record EastSide (A B : Window) : Type 0 where
  pub column : A.c0 + A.w ≡ B.c0
  pub row : A.r0 ≡ B.r0
  pub tall : A.h ≡ B.h

-- the south side of A is the north side of B
pub record SouthSide (A B : Window) : Type 0 where
  pub row : A.r0 + A.h ≡ B.r0
  pub column : A.c0 ≡ B.c0
  pub wide : A.w ≡ B.w

-- they touch along a whole side of both
pub data Touching (A B : Window) : Type 0 where
  east : EastSide A B → Touching A B
  west : EastSide B A → Touching A B
  south : SouthSide A B → Touching A B
  north : SouthSide B A → Touching A B

-- from the least of the edges to the greatest: the smallest window around both
unfoldable pub hull : Window → Window → Window
hull A B =
    let r = min A.r0 B.r0 in
    let c = min A.c0 B.c0 in
    window r c (max (A.r0 + A.h) (B.r0 + B.h) - r) (max (A.c0 + A.w) (B.c0 + B.w) - c)

-- from the greatest of the edges to the least: what they share. Where that is nothing, it has no row or no column
unfoldable pub meet : Window → Window → Window
meet A B =
    let r = max A.r0 B.r0 in
    let c = max A.c0 B.c0 in
    window r c (min (A.r0 + A.h) (B.r0 + B.h) - r) (min (A.c0 + A.w) (B.c0 + B.w) - c)

-- how many pixels a window has
abbrev pub size : Window → ℕ
size W = W.h * W.w

-- they fill the window around both: together, less what they share, they have as many pixels. This is computed from the edges
abbrev pub Filled : Window → Window → Type 0
Filled A B = size A + size B ≡ size (hull A B) + size (meet A B)
