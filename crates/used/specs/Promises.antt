-- The words in which it is said what a use of a map and a window asks.
-- Assumes nothing.
use Rattle.std.specs.Prelude.{Bool, true, List, ℕ, ◌≤◌}
use Rattle.window.specs.declared.Window.{Window}
use Rattle.window.specs.Window.{Inside}
use Rattle.map.specs.Sound.{SoundIn}

-- what refusals 1 to 7 pass: a sound map, a window inside the picture, and a border of at least w cells. Of m, the keys, the number of classes, the window and the number of cells
pub record AnswerableIn (whole : Bool) (m : ℕ) (keys : List ℕ) (classes : ℕ) (W : Window) (cells : ℕ) : Type 0 where
  pub sound : SoundIn whole m keys classes
  pub inside : Inside m W
  pub wide : W.w ≤ cells

-- on a whole map
abbrev pub Answerable : ℕ → List ℕ → ℕ → Window → ℕ → Type 0
Answerable = AnswerableIn true
