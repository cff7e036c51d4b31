-- A month: a running table of what maps have in one window. Its first 1,030 cells are m, r0, c0, h, w, the number of maps, and then four for each class.
-- Assumes nothing.
use Rattle.std.specs.Prelude.{Bool, not, ◌||◌, List, [], ◌∷◌, ◌++◌, map, ℕ, ◌+◌, ◌*◌, eqb, ltb, length, get_or, replicate, Result, Ok}
use Rattle.lists.specs.Lists.{up_from}
use Rattle.answers.specs.declared.Cause.TheVariants.{OtherM, MonthFull, BadTable}
use Rattle.answers.specs.declared.Refused.{Refused}
use Rattle.answers.specs.Refusals.{Refusal, refusal, refuse}
use Rattle.answers.specs.Cells.{overwrite}
use Rattle.answers.specs.After.{After, after, unless, room_refusals}
use Rattle.window.specs.declared.Window.{Window}
use Rattle.window.specs.Window.{window_from, outside}
use Rattle.window.specs.Drawn.{drawn_for}
use Rattle.map.specs.Check.{map_refusals}
use Rattle.used.specs.Used.{border_refusals, spent}
use Rattle.totals.specs.Totals.{total}
use Rattle.rows.specs.Rows.{Row, row_cells, row_in, with_map, any_over}

-- ---- the table

-- the first five cells
abbrev pub head_of : ℕ → Window → List ℕ
head_of m W = m ∷ W.r0 ∷ W.c0 ∷ W.h ∷ W.w ∷ []

-- the cells of m, a window, a number of maps, and a row for each class
unfoldable pub table_of : ℕ → Window → ℕ → (ℕ → Row) → List ℕ
table_of m W maps rows = head_of m W ++ maps ∷ row_cells (map rows (up_from 0 256))

-- and back, from any cells: m, the window, the number of maps. The window's numbers may be any; no picture has one that is over 16 bits
abbrev pub m_in : List ℕ → ℕ
m_in table = get_or table 0 0

abbrev pub window_in : List ℕ → Window
window_in table = window_from table 1

abbrev pub maps_in : List ℕ → ℕ
maps_in table = get_or table 5 0

-- ---- clearing

-- a table of no map: m and the window, and zero in the rest
unfoldable pub clear_of : ℕ → Window → List ℕ → After (Result Unit Refused) (List ℕ)
clear_of m W = drawn_for refuse (Ok tt) (head_of m W ++ replicate 1025 0) m W

-- ---- adding

-- the table with a map more
unfoldable pub add_map : ℕ → List ℕ → List ℕ → List ℕ → List ℕ
add_map m keys classes table =
    let W = window_in table in
    table_of m W (maps_in table + 1) (λ class. with_map (eqb (maps_in table) 0) (total m keys classes W class) (row_in table class))

-- refusal 26: 6 would refuse the table's window, or its count of maps is over a thousand, or a class has more of them or a greater sum than they have pixels in the window
unfoldable pub spoiled : ℕ → List ℕ → Bool
spoiled m table =
    let W = window_in table in
    outside m W || ltb 1000 (maps_in table) || any_over (maps_in table * (W.h * W.w)) (maps_in table) table

-- the refusals of the table alone: 8; 15, another m than the table's; 26; and 16, the thousand are used
unfoldable pub table_refusals : ℕ → List ℕ → List Refusal
table_refusals m table =
    room_refusals (length table) 1030
    ++ refusal (not (eqb (m_in table) m)) OtherM 0 ∷ refusal (spoiled m table) BadTable 0 ∷ refusal (eqb (maps_in table) 1000) MonthFull 0 ∷ []

-- the refusals of adding: those of the map, of the table, and of the border, by the table's window
unfoldable pub add_refusals : ℕ → List ℕ → ℕ → ℕ → List ℕ → List Refusal
add_refusals m keys classes border table = map_refusals m keys classes ++ (table_refusals m table ++ border_refusals (window_in table).w border)

-- adding: how many maps there are now; the border spent and the table with the map. A refusal leaves both as they were
unfoldable pub add_of : ℕ → List ℕ → List ℕ → List ℕ → List ℕ → After (Result ℕ Refused) (List ℕ × List ℕ)
add_of m keys classes border table =
    unless refuse (add_refusals m keys (length classes) (length border) table) (border, table)
    (after (Ok (maps_in table + 1)) (spent (window_in table) border, overwrite (add_map m keys classes table) table))
