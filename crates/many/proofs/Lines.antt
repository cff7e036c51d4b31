-- What is said of windows: line by line, and of two lists one behind the other.
-- Assumes nothing.
use mathlib.Core.Path.{◌≡◌, refl, sym, ap, ◌∙◌}
use mathlib.Core.Bool.{Bool, true, false}
use mathlib.Core.List.{List, [], ◌∷◌, ◌++◌, append_assoc}
use Prim.Native.Nat.{ℕ, ◌*◌, ◌<◌}
use native.Mathlib.Omega.{arith}
use lib.ListN.{length, take, drop, length-append}
use lib.Seq.{take_at, drop_at}
use Rattle.answers.specs.Refusals.{number, answer}
use Rattle.answers.proofs.Laws.{on-passed, on-refused}
use Rattle.window.specs.declared.Window.{Window}
use Rattle.window.specs.Window.{Inside, outside, window_refusals}
use Rattle.window.proofs.Laws.{inside, window-refused, window-passed}
use Rattle.map.specs.Sound.{Spaced}
use Rattle.border.specs.Openings.{openings, handed_count}
use Rattle.border.specs.ViewPromises.{SameView}
use Rattle.border.proofs.Laws.{openings-numbers}
use Rattle.many.specs.Many.{window_at, windows_in, line, line_of, line_cells, lines_of}
use Rattle.many.proofs.Windows.{windows_from, windows-count, windows-split}

module _ (m : ℕ) (keys : List ℕ) where
  module _ (W : Window) where
    pub line-is : line_of m keys W
        ≡ (let os = openings m m keys W in
        answer (λ cause place. line (number cause) place 0 0 0) (window_refusals m W) (line 0 0 (length os) (handed_count os) (W.h * W.w)))
    unfolding line_of
    line-is = refl

    pub line-outside : outside m W ≡ true → line_of m keys W ≡ line 6 0 0 0 0
    line-outside e = line-is ∙ on-refused _ (window_refusals m W) _ (window-refused m W e)

    pub line_refused : ¬ Inside m W → line_of m keys W ≡ line 6 0 0 0 0
    line_refused apart = go (outside m W) refl
      where
        go : (b : Bool) → outside m W ≡ b → line_of m keys W ≡ line 6 0 0 0 0
        go true e = line-outside e
        go false e = absurd (apart (inside m W e))

    pub line-inside : outside m W ≡ false → line_of m keys W ≡ line 0 0 (length (openings m m keys W)) (handed_count (openings m m keys W)) (W.h * W.w)
    line-inside e = line-is ∙ on-passed _ (window_refusals m W) _ (window-passed m W e)

  pub lines_none : lines_of m keys [] ≡ []
  unfolding lines_of
  lines_none = refl

  lines_next : (W : Window) (Ws : List Window) → lines_of m keys (W ∷ Ws) ≡ line_cells (line_of m keys W) ++ lines_of m keys Ws
  unfolding lines_of
  lines_next W Ws = refl

  pub lines-one : (W : Window) → lines_of m keys (W ∷ []) ≡ line_cells (line_of m keys W)
  lines-one W = lines_next W [] ∙ rw lines_none

  pub lines-append : (Ws Xs : List Window) → lines_of m keys (Ws ++ Xs) ≡ lines_of m keys Ws ++ lines_of m keys Xs
  lines-append [] Xs = rw lines_none
  lines-append (W ∷ Ws) Xs =
      lines_next W (Ws ++ Xs) ∙ rw (lines-append Ws Xs, lines_next W Ws) (sym (append_assoc (line_cells (line_of m keys W)) (lines_of m keys Ws) (lines_of m keys Xs)))

  pub lines-length : (Ws : List Window) → length (lines_of m keys Ws) ≡ 5 * length Ws
  lines-length [] = rw lines_none
  lines-length (W ∷ Ws) = ap length (lines_next W Ws) ∙ omega (arith, length-append (line_cells (line_of m keys W)) (lines_of m keys Ws), lines-length Ws)

  -- the line of a window stands in five cells, behind those of the windows before it
  behind : (Ws : List Window) (W : Window) (Xs : List Window) → take 5 (drop (5 * length Ws) (lines_of m keys (Ws ++ W ∷ Xs))) ≡ line_cells (line_of m keys W)
  behind Ws W Xs =
      rw (lines-append Ws (W ∷ Xs), drop_at (lines_of m keys Ws) (lines_of m keys (W ∷ Xs)) (5 * length Ws) (lines-length Ws), lines_next W Xs)
      (take_at (line_cells (line_of m keys W)) (lines_of m keys Xs) 5 refl)

  pub lines_at : (windows : List ℕ) (i : ℕ) → i < length (windows_in windows)
      → take 5 (drop (5 * i) (lines_of m keys (windows_in windows))) ≡ line_cells (line_of m keys (window_at windows i))
  lines_at windows i l =
      let Ws : List Window = windows_from windows 0 i in
      let e : 5 * i ≡ 5 * length Ws = ap (λ (n : ℕ). 5 * n) (sym (windows-count windows 0 i)) in
      ap (λ (all : List Window). take 5 (drop (5 * i) (lines_of m keys all))) (windows-split windows i l) ∙ rw e (behind Ws (window_at windows i) _)

-- on two maps with the same view through the window the line is the same
pub line_view : {m : ℕ} {keys keys' : List ℕ} → Spaced m 0 keys → Spaced m 0 keys' → {W : Window} {classes classes' : List ℕ} → SameView m keys classes keys' classes' W
    → line_of m keys W ≡ line_of m keys' W
line_view {m} {keys} {keys'} F F' {W} same = go (outside m W) refl
  where
    go : (b : Bool) → outside m W ≡ b → line_of m keys W ≡ line_of m keys' W
    go true e = line-outside m keys W e ∙ sym (line-outside m keys' W e)
    go false e =
        let n = openings-numbers {top = m} F F' (inside m W e) (omega arith) same in
        line-inside m keys W e ∙ rw (n.0, n.1) (sym (line-inside m keys' W e))
