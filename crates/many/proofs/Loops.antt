-- The loops over the windows of a list: the widest of the first i, and the lines of the first i.
-- Assumes nothing.
use mathlib.Core.Path.{◌≡◌, refl, sym, ap, subst, ◌∙◌}
use mathlib.Core.List.{List, [], ◌∷◌, ◌++◌}
use Prim.Native.Nat.{ℕ, max, ◌+◌, ◌*◌, ◌/◌, ◌≤◌, ◌<◌}
use native.Mathlib.Omega.{arith}
use lib.ListN.{length}
use lib.Seq.{sets}
use Rattle.answers.specs.Cells.{overwrite}
use Rattle.answers.proofs.Laws.{Filling, filling-first, filling-sets}
use Rattle.window.specs.declared.Window.{Window}
use Rattle.many.specs.declared.Line.{Line}
use Rattle.many.specs.Many.{window_at, windows_in, columns, line_of, line_cells, lines_of, left_by, widest}
use Rattle.many.proofs.Windows.{windows_from, windows-all, windows-count, windows-length, windows-first, windows-next, windows-in}
use Rattle.many.proofs.Lines.{lines_none, lines-one, lines-append, lines-length}
use Rattle.many.proofs.Border.{widest-none, widest-behind, widest-all, left-none, left-append}

-- all windows are the first n
all_from : (windows : List ℕ) {i : ℕ} → i ≤ length windows / 4 → length windows / 4 ≤ i → windows_from windows 0 i ≡ windows_in windows
all_from windows {i} few l = let e : length windows / 4 ≡ i = omega (arith, few, l) in sym (windows-all windows ∙ rw e)

-- ---- the widest

pub record Widening (m : ℕ) (windows : List ℕ) (w i : ℕ) : Type 0 where
  pub few : i ≤ length windows / 4
  pub is : w ≡ widest m (windows_from windows 0 i)

module _ (m : ℕ) (windows : List ℕ) where
  pub widening-first : Widening m windows 0 0
  widening-first = record { few = omega arith; is = sym (ap (widest m) (windows-first windows) ∙ widest-none m) }

  pub widening-next : {w i w' : ℕ} → Widening m windows w i → i < length windows / 4 → w' ≡ max w (columns m (window_at windows i)) → Widening m windows w' (i + 1)
  widening-next {w} {i} N l e = record {
    few = omega arith;
    is = e ∙ rw (N.is, windows-next windows i) (sym (widest-behind m (windows_from windows 0 i) (window_at windows i)));
  }

  pub widening-last : {w i : ℕ} → Widening m windows w i → length windows / 4 ≤ i → w ≡ widest m (windows_in windows)
  widening-last N l = N.is ∙ ap (widest m) (all_from windows N.few l)

-- ---- the lines

pub record Telling (m : ℕ) (keys windows border₀ out₀ border out : List ℕ) (i : ℕ) : Type 0 where
  pub few : i ≤ length windows / 4
  pub spends : border ≡ left_by m (windows_from windows 0 i) border₀
  pub long : length border ≡ length border₀
  pub lines : Filling (lines_of m keys (windows_from windows 0 i)) out₀ out

module _ (m : ℕ) (keys windows border₀ out₀ : List ℕ) where
  pub telling-first : Telling m keys windows border₀ out₀ border₀ out₀ 0
  telling-first =
      let none = windows-first windows in
      record {
        few = omega arith;
        spends = sym (ap (λ (Ws : List Window). left_by m Ws border₀) none ∙ left-none m border₀);
        long = refl;
        lines = rw (none, lines_none m keys) (filling-first out₀);
      }

  module _ (wide : widest m (windows_in windows) ≤ length border₀) (room : 5 * length (windows_in windows) ≤ length out₀) where
    -- there are border cells enough for the next window, and room for its line
    module _ {border out : List ℕ} {i : ℕ} (T : Telling m keys windows border₀ out₀ border out i) (l : i < length windows / 4) where
      pub telling-wide : columns m (window_at windows i) ≤ length border
      telling-wide = omega (arith, wide, T.long, widest-all m (windows_in windows) (window_at windows i) (windows-in windows i (omega (arith, l, windows-length windows))))

      pub telling-room : 5 * i + 5 ≤ length out
      telling-room = omega (arith, room, l, windows-length windows, T.lines.same)

      pub telling-next : {line : Line} {border' out' : List ℕ} → line ≡ line_of m keys (window_at windows i) → border' ≡ left_by m (window_at windows i ∷ []) border
          → length border' ≡ length border → out' ≡ sets out (5 * i) (line_cells line) → Telling m keys windows border₀ out₀ border' out' (i + 1)
      telling-next {line} {border'} {out'} told spends same stored =
          let Ws : List Window = windows_from windows 0 i in
          let W : Window = window_at windows i in
          let next = windows-next windows i in
          let at : length (lines_of m keys Ws) ≡ 5 * i = lines-length m keys Ws ∙ ap (λ (n : ℕ). 5 * n) (windows-count windows 0 i) in
          let more : lines_of m keys Ws ++ line_cells line ≡ lines_of m keys (windows_from windows 0 (i + 1)) =
          rw (next, lines-append m keys Ws (W ∷ []), lines-one m keys W, told) in
          record {
            few = omega arith;
            spends = spends ∙ rw (T.spends, next) (sym (left-append m Ws (W ∷ []) border₀));
            long = same ∙ T.long;
            lines = rw stored (subst (λ (part : List ℕ). Filling part out₀ (sets out (5 * i) (line_cells line))) more
                (filling-sets T.lines (5 * i) at (line_cells line) (omega (arith, room, l, windows-length windows))));
          }

  pub telling-last : {border out : List ℕ} {i : ℕ} → Telling m keys windows border₀ out₀ border out i → length windows / 4 ≤ i
      → (border ≡ left_by m (windows_in windows) border₀) × (out ≡ overwrite (lines_of m keys (windows_in windows)) out₀)
  telling-last T l =
      let all = all_from windows T.few l in
      (T.spends ∙ ap (λ (Ws : List Window). left_by m Ws border₀) all, T.lines.is ∙ ap (λ (Ws : List Window). overwrite (lines_of m keys Ws) out₀) all)
