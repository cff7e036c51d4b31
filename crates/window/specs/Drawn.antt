-- What is asked of a window alone, with no map: refusals 1, 6 and 8, or an answer in a lent slice.
-- Assumes nothing.
use Rattle.std.specs.Prelude.{List, ◌++◌, ℕ, length}
use Rattle.answers.specs.declared.Cause.{Cause}
use Rattle.answers.specs.Refusals.{Refusal}
use Rattle.answers.specs.Sizes.{picture_refusals}
use Rattle.answers.specs.Cells.{overwrite}
use Rattle.answers.specs.After.{After, after, unless, room_refusals}
use Rattle.window.specs.declared.Window.{Window}
use Rattle.window.specs.Window.{window_refusals}

-- its refusals, of m, the window, the number of cells needed, and the length of the lent slice
unfoldable pub drawn_refusals : ℕ → Window → ℕ → ℕ → List Refusal
drawn_refusals m W needed room = picture_refusals m ++ (window_refusals m W ++ room_refusals room needed)

-- whatever answers `done` and writes `cells`; a refusal leaves the slice as it was
unfoldable pub drawn_for : {A : Type 0} → (Cause → ℕ → A) → A → List ℕ → ℕ → Window → List ℕ → After A (List ℕ)
drawn_for refuse done cells m W out = unless refuse (drawn_refusals m W (length cells) (length out)) out (after done (overwrite cells out))
