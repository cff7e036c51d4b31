-- A border that is spent: its first w cells hold r0 + h, and beyond them stands what was there.
-- Assumes nothing.
use mathlib.Core.Path.{◌≡◌, refl, ◌∙◌}
use mathlib.Core.List.{List}
use Prim.Native.Nat.{ℕ, ◌+◌, ◌≤◌, ◌<◌}
use lib.ListN.{length, drop, get_or, replicate, length-replicate, get_or-replicate}
use Rattle.answers.specs.Cells.{overwrite}
use Rattle.answers.proofs.Laws.{overwrite-length, overwrite-at, overwrite-beyond, overwrite-same, overwrite-again}
use Rattle.window.specs.declared.Window.{Window}
use Rattle.used.specs.Used.{spent}

module _ (W : Window) where
  abbrev ends : List ℕ
  ends = replicate W.w (W.r0 + W.h)

  w-cells : length ends ≡ W.w
  w-cells = length-replicate W.w (W.r0 + W.h)

  pub spent-is : (border : List ℕ) → spent W border ≡ overwrite (replicate W.w (W.r0 + W.h)) border
  unfolding spent
  spent-is border = refl

  -- cell by cell
  pub spent-at : (border : List ℕ) (j : ℕ) → j < W.w → get_or (spent W border) j 0 ≡ W.r0 + W.h
  unfolding spent
  spent-at border j l = overwrite-at ends border j (rw w-cells l) ∙ get_or-replicate W.w j (W.r0 + W.h) 0 l

  pub spent-past : (border : List ℕ) (j : ℕ) → W.w ≤ j → get_or (spent W border) j 0 ≡ get_or border j 0
  unfolding spent
  spent-past border j l = overwrite-beyond ends border j (rw w-cells l)

  -- only the cells beyond the first w matter
  pub spent-beyond : (border cells : List ℕ) → drop W.w border ≡ drop W.w cells → spent W border ≡ spent W cells
  unfolding spent
  spent-beyond border cells e = overwrite-same ends cells border (rw w-cells e)

  -- so what is spent already is spent no further
  pub spent-again : (border : List ℕ) → spent W (spent W border) ≡ spent W border
  unfolding spent
  spent-again border = overwrite-again ends border

  pub spent-length : (border : List ℕ) → W.w ≤ length border → length (spent W border) ≡ length border
  unfolding spent
  spent-length border wide = overwrite-length ends border (rw w-cells wide)
