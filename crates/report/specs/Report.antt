-- Report: the answer and every lent cell, on every input.
-- Assumes nothing.
use Rattle.std.specs.Prelude.{Bool, true, List, ℕ, ◌*◌, length, Result, Ok}
use Rattle.answers.specs.declared.Refused.{Refused}
use Rattle.answers.specs.Refusals.{refuse}
use Rattle.answers.specs.After.{After}
use Rattle.window.specs.declared.Window.{Window}
use Rattle.window.specs.Rules.{totals_by}
use Rattle.map.specs.Classes.{class_in}
use Rattle.used.specs.Used.{used_in}

-- report by any rule that gives places classes, on a map that is to be whole or may have gaps, of so many classes: the number of the window's pixels, and the totals of all 256
-- classes in their cells
unfoldable pub report_in : Bool → (ℕ → ℕ) → ℕ → List ℕ → ℕ → Window → List ℕ → List ℕ → After (Result ℕ Refused) (List ℕ × List ℕ)
report_in whole rule m keys classes W = used_in whole refuse (Ok (W.h * W.w)) (totals_by rule W) m keys classes W

-- by a whole map
abbrev pub report_of : ℕ → List ℕ → List ℕ → Window → List ℕ → List ℕ → After (Result ℕ Refused) (List ℕ × List ℕ)
report_of m keys classes = report_in true (class_in m keys classes) m keys (length classes)
