-- The lines for openings and for classes: what the loops do in a turn.
-- Assumes nothing.
use mathlib.Core.Path.{◌≡◌, refl, ap, ◌∙◌}
use mathlib.Core.List.{List, [], ◌∷◌, ◌++◌}
use Prim.Native.Nat.{ℕ, ◌+◌, ◌≤◌, ◌<◌}
use native.Mathlib.Numerals.{add-one}
use native.Mathlib.Omega.{arith}
use lib.ListN.{length, drop, get_or, drop_of_length-le}
use lib.Seq.{drop-cons}
use borrow.Author.Tests.{eq-eqb, ne_eqb}
use Rattle.text.specs.Text.{line_of}
use Rattle.lines.specs.Lines.{opening_lines, class_line, class_lines}

-- ---- openings

opening : (xs rest : List ℕ) → length xs ≡ 3 → opening_lines (xs ++ rest) ≡ line_of 79 xs ++ opening_lines rest
unfolding opening_lines
opening (a ∷ b ∷ c ∷ []) rest l = refl
opening [] rest l = absurd (omega arith)
opening (a ∷ []) rest l = absurd (omega arith)
opening (a ∷ b ∷ []) rest l = absurd (omega arith)
opening (a ∷ b ∷ c ∷ d ∷ xs) rest l = absurd (omega arith)

-- the next three cells, and the rest
pub opening-next : {cells : List ℕ} (xs rest : List ℕ) → cells ≡ xs ++ rest → length xs ≡ 3 → opening_lines cells ≡ line_of 79 xs ++ opening_lines rest
opening-next xs rest e l = ap opening_lines e ∙ opening xs rest l

pub opening-last : (cells : List ℕ) → length cells < 3 → opening_lines cells ≡ []
unfolding opening_lines
opening-last [] l = refl
opening-last (a ∷ []) l = refl
opening-last (a ∷ b ∷ []) l = refl
opening-last (a ∷ b ∷ c ∷ cells) l = absurd (omega arith)

-- ---- classes

pub class-none : (class : ℕ) {pixels : ℕ} → pixels ≡ 0 → class_line class pixels ≡ []
unfolding class_line
class-none class e = rw (eq-eqb _ 0 e)

pub class-some : (class : ℕ) {pixels : ℕ} → (pixels ≡ 0 → ⊥) → class_line class pixels ≡ line_of 65 (class ∷ pixels ∷ [])
unfolding class_line
class-some class e = rw (ne_eqb _ 0 e)

module _ (totals : List ℕ) (class : ℕ) where
  pub class-next : class < length totals → class_lines class (drop class totals) ≡ class_line class (get_or totals class 0) ++ class_lines (class + 1) (drop (class + 1) totals)
  unfolding class_lines
  class-next l = rw (drop-cons totals class 0, add-one)

  pub class-last : length totals ≤ class → class_lines class (drop class totals) ≡ []
  unfolding class_lines
  class-last l = rw (drop_of_length-le totals l)
