-- How many pixels of a window have each class.
-- Assumes nothing.
use Rattle.std.specs.Prelude.{List, ℕ}
use Rattle.window.specs.declared.Window.{Window}
use Rattle.window.specs.Rules.{total_by, totals_by}
use Rattle.map.specs.Classes.{class_in}

-- how many pixels of the window have the class
abbrev pub total : ℕ → List ℕ → List ℕ → Window → ℕ → ℕ
total m keys classes = total_by (class_in m keys classes)

-- the totals of all 256 classes, class by class
abbrev pub totals : ℕ → List ℕ → List ℕ → Window → List ℕ
totals m keys classes = totals_by (class_in m keys classes)
