-- The words in which it is said what a month is: the table of a list of maps, and what 26 lets pass.
-- Assumes nothing.
use Rattle.std.specs.Prelude.{◌≡◌, List, map, ℕ, ◌*◌, ◌≤◌, ◌<◌, length}
use Rattle.window.specs.declared.Window.{Window}
use Rattle.window.specs.Window.{Inside}
use Rattle.map.specs.Sound.{SoundMap}
use Rattle.totals.specs.Totals.{total}
use Rattle.rows.specs.Rows.{row_in}
use Rattle.rows.specs.Promises.{row_of}
use Rattle.month.specs.Month.{table_of, m_in, window_in, maps_in}

-- a map by its keys and its classes
abbrev pub Map : Type 0
Map = List ℕ × List ℕ

-- map by map, how many pixels of the window have the class
unfoldable pub counts_of : ℕ → Window → List Map → ℕ → List ℕ
counts_of m W maps class = map (λ (a : Map). total m a.0 a.1 W class) maps

-- the table of a list of maps
unfoldable pub month_of : ℕ → Window → List Map → List ℕ
month_of m W maps = table_of m W (length maps) (λ class. row_of (counts_of m W maps class))

-- a table that 26 lets pass: a window inside the picture, at most a thousand maps, and in no class more of them or more pixels than they have
pub record Sane (m : ℕ) (table : List ℕ) : Type 0 where
  pub inside : Inside m (window_in table)
  pub few : maps_in table ≤ 1000
  pub sums : (class : ℕ) → class < 256 → (row_in table class).sum ≤ maps_in table * ((window_in table).h * (window_in table).w)
  pub counts : (class : ℕ) → class < 256 → (row_in table class).maps ≤ maps_in table

-- a table to which a map of this m can be added: a whole one of that m, which 26 lets pass and which has fewer than a thousand maps
pub record Ongoing (m : ℕ) (table : List ℕ) : Type 0 where
  pub long : 1030 ≤ length table
  pub same : m_in table ≡ m
  pub sane : Sane m table
  pub fewer : maps_in table < 1000

-- what adding asks: a sound map, such a table, and a border as wide as the table's window. Of the classes and the border their numbers count
pub record Addable (m : ℕ) (keys : List ℕ) (classes border : ℕ) (table : List ℕ) : Type 0 where
  pub sound : SoundMap m keys classes
  pub ongoing : Ongoing m table
  pub wide : (window_in table).w ≤ border
