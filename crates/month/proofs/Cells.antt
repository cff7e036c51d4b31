-- A table in its cells, and back: of cells that begin with a table, m, the window, the number of maps and the rows are the table's.
-- Assumes nothing.
use mathlib.Core.Path.{◌≡◌, sym, ap, ◌∙◌}
use mathlib.Core.List.{List, ◌∷◌}
use Prim.Native.Nat.{ℕ, ◌+◌, ◌*◌, ◌<◌}
use native.Mathlib.Omega.{arith}
use lib.ListN.{get_or, drop}
use lib.Seq.{get_or-drop, drop-drop}
use Rattle.answers.specs.Cells.{overwrite}
use Rattle.answers.proofs.Laws.{overwrite-at}
use Rattle.window.specs.declared.Window.{Window}
use Rattle.rows.specs.Rows.{Row, row_cells, row_in}
use Rattle.rows.proofs.Laws.{cells-next, behind-rows}
use Rattle.month.specs.Month.{table_of, m_in, window_in, maps_in}
use Rattle.month.proofs.Adding.{table-length}

module _ (m : ℕ) (W : Window) (maps : ℕ) (rows : ℕ → Row) (old : List ℕ) where
  abbrev cells : List ℕ
  cells = overwrite (table_of m W maps rows) old

  at : (i : ℕ) → i < 1030 → get_or cells i 0 ≡ get_or (table_of m W maps rows) i 0
  at i l = overwrite-at (table_of m W maps rows) old i (omega (arith, table-length m W maps rows))

  pub m-read : m_in (overwrite (table_of m W maps rows) old) ≡ m
  unfolding table_of
  m-read = at 0 (omega arith)

  pub window-read : window_in (overwrite (table_of m W maps rows) old) ≡ W
  unfolding table_of
  window-read = rw (at 1 (omega arith), at 2 (omega arith), at 3 (omega arith), at 4 (omega arith))

  pub maps-read : maps_in (overwrite (table_of m W maps rows) old) ≡ maps
  unfolding table_of
  maps-read = at 5 (omega arith)

  -- the cells of class k's row
  row-cells : (k : ℕ) → k < 256 → (rest : List Row) × (drop (6 + 4 * k) (table_of m W maps rows) ≡ row_cells (rows k ∷ rest))
  unfolding table_of
  row-cells k l =
      let t = behind-rows rows 0 256 k l in
      let z : 0 + k ≡ k = omega arith in
      (t.0, sym (drop-drop (4 * k) 6 (table_of m W maps rows)) ∙ rw z at t.1)

  pub row_read : (k : ℕ) → k < 256 → row_in (overwrite (table_of m W maps rows) old) k ≡ rows k
  row_read k l =
      let first : ℕ = 6 + 4 * k in
      let t = row-cells k l in
      let four = t.1 ∙ cells-next (rows k) t.0 in
      let cell : (i : ℕ) → i < 4 → get_or cells (first + i) 0 ≡ get_or ((rows k).least ∷ (rows k).greatest ∷ (rows k).sum ∷ (rows k).maps ∷ row_cells t.0) i 0 =
      λ i h. at (first + i) (omega (arith, l, h)) ∙ sym (get_or-drop first (table_of m W maps rows) i 0) ∙ ap (λ (x : List ℕ). get_or x i 0) four in
      let none : first + 0 ≡ first = omega arith in
      rw (rw none at (cell 0 (omega arith)), cell 1 (omega arith), cell 2 (omega arith), cell 3 (omega arith))
