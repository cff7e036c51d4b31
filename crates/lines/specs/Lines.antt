-- The lines that are printed: of a window, of a refusal, and of what is found in a window.
-- Assumes nothing.
use Rattle.std.specs.Prelude.{cond, List, [], ◌∷◌, ◌++◌, ℕ, ◌+◌, eqb}
use Rattle.answers.specs.declared.Cause.{Cause}
use Rattle.answers.specs.Refusals.{Refusal, answer, number}
use Rattle.window.specs.declared.Window.{Window}
use Rattle.text.specs.Text.{line_of}

-- W r0 c0 h w
abbrev pub window_line : Window → List ℕ
window_line W = line_of 87 (W.r0 ∷ W.c0 ∷ W.h ∷ W.w ∷ [])

-- R number place
abbrev pub refusal_line : ℕ → ℕ → List ℕ
refusal_line number place = line_of 82 (number ∷ place ∷ [])

-- the same of a cause, by its number
abbrev pub cause_line : Cause → ℕ → List ℕ
cause_line cause place = refusal_line (number cause) place

-- of refusals in their order: the line of the first that holds, or nothing
abbrev pub refused_text : List Refusal → List ℕ
refused_text refusals = answer cause_line refusals []

-- O key first count, for each three cells
unfoldable pub opening_lines : List ℕ → List ℕ
opening_lines [] = []
opening_lines (key ∷ []) = []
opening_lines (key ∷ first ∷ []) = []
opening_lines (key ∷ first ∷ count ∷ cells) = line_of 79 (key ∷ first ∷ count ∷ []) ++ opening_lines cells

-- A class pixels, where there is such a pixel
unfoldable pub class_line : ℕ → ℕ → List ℕ
class_line class pixels = cond (eqb pixels 0) [] (line_of 65 (class ∷ pixels ∷ []))

-- for each class from this one on
unfoldable pub class_lines : ℕ → List ℕ → List ℕ
class_lines class [] = []
class_lines class (pixels ∷ rest) = class_line class pixels ++ class_lines (class + 1) rest

-- T openings records pixels, behind the openings and the classes
unfoldable pub found_lines : List ℕ → List ℕ → ℕ → ℕ → ℕ → List ℕ
found_lines cells totals openings records pixels = opening_lines cells ++ (class_lines 0 totals ++ line_of 84 (openings ∷ records ∷ pixels ∷ []))
