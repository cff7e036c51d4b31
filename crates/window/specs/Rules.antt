-- The pixels of a window by their classes, under any rule that gives places classes.
-- Assumes nothing.
use Rattle.std.specs.Prelude.{Bool, List, map, ℕ, eqb}
use Rattle.lists.specs.Lists.{up_from, any, how_many}
use Rattle.key.specs.Picture.{place, Px}
use Rattle.window.specs.declared.Window.{Window}
use Rattle.window.specs.Blocks.{pixels}

-- a pixel has the class
abbrev pub ruled : (ℕ → ℕ) → ℕ → Px → Bool
ruled rule class p = eqb (rule (place p.0 p.1)) class

-- some pixel of the window has it
unfoldable pub exists_by : (ℕ → ℕ) → Window → ℕ → Bool
exists_by rule W class = any (ruled rule class) (pixels W)

-- how many pixels of the window have it
unfoldable pub total_by : (ℕ → ℕ) → Window → ℕ → ℕ
total_by rule W class = how_many (ruled rule class) (pixels W)

-- the same of all 256 classes, class by class
unfoldable pub totals_by : (ℕ → ℕ) → Window → List ℕ
totals_by rule W = map (total_by rule W) (up_from 0 256)
