-- How long the lines can be: eleven bytes for each number, and two for the letter and the end of the line.
-- Assumes nothing.
use mathlib.Core.Path.{◌≡◌, refl}
use mathlib.Core.Bool.{Bool, true, false}
use mathlib.Core.List.{List, [], ◌∷◌}
use Prim.Native.Nat.{ℕ, ◌+◌, ◌*◌, ◌≤◌}
use native.Mathlib.Omega.{arith}
use lib.Dec.{eqb}
use lib.ListN.{length, length-append}
use borrow.Author.Tests.{eqb-true, eqb-false}
use Rattle.window.specs.declared.Window.{Window}
use Rattle.text.proofs.Laws.{line-most}
use Rattle.lines.specs.Lines.{window_line, refusal_line, opening_lines, class_line, class_lines, found_lines}
use Rattle.lines.proofs.Turns.{class-none, class-some}

pub window-most : (W : Window) → length (window_line W) ≤ 46
window-most W = line-most 87 (W.r0 ∷ W.c0 ∷ W.h ∷ W.w ∷ [])

pub refusal-most : (n p : ℕ) → length (refusal_line n p) ≤ 24
refusal-most n p = line-most 82 (n ∷ p ∷ [])

openings-most : (cells : List ℕ) → length (opening_lines cells) ≤ 12 * length cells
unfolding opening_lines
openings-most [] = omega arith
openings-most (a ∷ []) = omega arith
openings-most (a ∷ b ∷ []) = omega arith
openings-most (a ∷ b ∷ c ∷ cells) = simp length-append (omega (arith, line-most 79 (a ∷ b ∷ c ∷ []), openings-most cells))

class-most : (class pixels : ℕ) → length (class_line class pixels) ≤ 24
class-most class pixels = go (eqb pixels 0) refl
  where
    go : (t : Bool) → eqb pixels 0 ≡ t → length (class_line class pixels) ≤ 24
    go true e = rw (class-none class (eqb-true pixels 0 e)) (omega arith)
    go false e = rw (class-some class (eqb-false pixels 0 e)) (line-most 65 (class ∷ pixels ∷ []))

classes-most : (class : ℕ) (totals : List ℕ) → length (class_lines class totals) ≤ 24 * length totals
unfolding class_lines
classes-most class [] = omega arith
classes-most class (pixels ∷ rest) = simp length-append (omega (arith, class-most class pixels, classes-most (class + 1) rest))

pub found-most : (cells totals : List ℕ) (openings records pixels : ℕ)
    → length (found_lines cells totals openings records pixels) ≤ 12 * length cells + (24 * length totals + 35)
unfolding found_lines
found-most cells totals openings records pixels =
    simp length-append (omega (arith, openings-most cells, classes-most 0 totals, line-most 84 (openings ∷ records ∷ pixels ∷ [])))
