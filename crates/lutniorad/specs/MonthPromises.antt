-- What is promised of the running table of a month.
-- Assumes nothing.
use Rattle.std.specs.Prelude.{◌≡◌, List, [], ◌∷◌, ◌++◌, ℕ, ◌+◌, ◌≤◌, ◌<◌, eqb, drop}
use Rattle.answers.specs.Cells.{overwrite}
use Rattle.window.specs.declared.Window.{Window}
use Rattle.used.specs.Used.{spent}
use Rattle.totals.specs.Totals.{total}
use Rattle.rows.specs.Rows.{row_in, with_map}
use Rattle.month.specs.Month.{m_in, window_in, maps_in}
use Rattle.month.specs.Promises.{Map, month_of, Sane}
use Rattle.lutniorad.specs.declared.Answer.{Answer}
use Rattle.lutniorad.specs.Numbers.{values}
use Rattle.lutniorad.specs.Calls.{MonthClear, MonthAdd}

-- clearing: the table of no map
pub record MonthClearPromise (m : ℕ) (W : Window) (table : List ℕ) (r : Answer) (table' : List ℕ) : Type 0 where
  pub number : r ≡ values 0 0
  pub cells : table' ≡ overwrite (month_of m W []) table

-- adding a map, to any table for which it is answered
pub record MonthAddPromise (m : ℕ) (keys classes border table : List ℕ) (r : Answer) (border' table' : List ℕ) : Type 0 where
  -- `first` is the number of maps now
  pub number : r ≡ values (maps_in table + 1) 0
  pub maps : maps_in table' ≡ maps_in table + 1
  -- m and the window stay
  pub same-m : m_in table' ≡ m_in table
  pub window : window_in table' ≡ window_in table
  -- each class has a map more, by its pixels in the table's window
  pub rows : (class : ℕ) → class < 256 → row_in table' class ≡ with_map (eqb (maps_in table) 0) (total m keys classes (window_in table) class) (row_in table class)
  -- nothing overflows: 26 lets the table pass again, and no sum is over 1,000 * 4,096 * 4,096
  pub sane : Sane m table'
  pub small : (class : ℕ) → class < 256 → (row_in table' class).sum ≤ 16777216000
  -- cells beyond keep their content
  pub beyond : drop 1030 table' ≡ drop 1030 table
  pub border-after : border' ≡ spent (window_in table) border

-- a row of calls on a table that was `old`: a clearing one that is answered, and then adding ones, of which `maps` are the maps for which they are answered
pub data MonthRow (m : ℕ) (W : Window) (old : List ℕ) : List Map → List ℕ → Type 0 where
  cleared : {r : Answer} {table : List ℕ} → MonthClear m W old r table → r.refusal ≡ 0 → MonthRow m W old [] table
  added : {maps : List Map} {table : List ℕ} → MonthRow m W old maps table → (k : ℕ) (keys classes border : List ℕ) {border' table' : List ℕ} {r : Answer}
      → MonthAdd k keys classes border table r border' table' → r.refusal ≡ 0 → MonthRow m W old (maps ++ (keys, classes) ∷ []) table'
  refused : {maps : List Map} {table : List ℕ} → MonthRow m W old maps table → (k : ℕ) (keys classes border : List ℕ) {border' table' : List ℕ} {r : Answer}
      → MonthAdd k keys classes border table r border' table' → (r.refusal ≡ 0 → ⊥) → MonthRow m W old maps table'
