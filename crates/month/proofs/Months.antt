-- The table of a list of maps: of none, and with one map more; and that 26 lets a table pass to which a map was added.
-- Assumes nothing.
use mathlib.Core.Path.{◌≡◌, sym, ap, ◌∙◌}
use mathlib.Core.List.{List, [], ◌∷◌, ◌++◌, map-append}
use Prim.Native.Nat.{ℕ, ◌+◌, ◌*◌, ◌≤◌, ◌<◌}
use native.Mathlib.Nat.{suc-mul}
use native.Mathlib.Numerals.{add-one}
use native.Mathlib.Omega.{arith}
use lib.Dec.{eqb}
use lib.ListN.{length, replicate, length-append, length-map}
use Rattle.lists.specs.Lists.{up_from}
use Rattle.lists.proofs.Laws.{up_in, map_same}
use Rattle.answers.specs.Cells.{overwrite}
use Rattle.answers.proofs.Laws.{overwrite-same, drop-beyond}
use Rattle.window.specs.declared.Window.{Window}
use Rattle.window.specs.Window.{Inside}
use Rattle.totals.specs.Totals.{total}
use Rattle.totals.proofs.Laws.{total-most}
use Rattle.rows.specs.Rows.{Row, row, row_cells, row_in, with_map}
use Rattle.rows.specs.Promises.{row_of}
use Rattle.rows.proofs.Laws.{zero-rows, with-sum, with-maps, row-none, row_next}
use Rattle.month.specs.Month.{head_of, table_of, m_in, window_in, maps_in, add_map}
use Rattle.month.specs.Promises.{Map, counts_of, month_of, Sane}
use Rattle.month.proofs.Adding.{table-length}
use Rattle.month.proofs.Cells.{m-read, window-read, maps-read, row_read}

-- ---- a table of no map

pub month-none : (m : ℕ) (W : Window) → head_of m W ++ replicate 1025 0 ≡ month_of m W []
unfolding month_of table_of counts_of
month-none m W = rw row-none (ap (λ (t : List ℕ). head_of m W ++ 0 ∷ t) (sym (zero-rows 0 256)))

-- ---- and with a map more

table_same : (m : ℕ) (W : Window) (maps : ℕ) {f g : ℕ → Row} → ((class : ℕ) → class < 256 → f class ≡ g class) → table_of m W maps f ≡ table_of m W maps g
unfolding table_of
table_same m W maps e = ap (λ (xs : List Row). head_of m W ++ maps ∷ row_cells xs) (map_same (up_from 0 256) (λ class l. e class ((up_in 0 256 class).0 l).1))

pub month-length : (m : ℕ) (W : Window) (maps : List Map) → length (month_of m W maps) ≡ 1030
unfolding month_of
month-length m W maps = table-length m W _ _

module _ (m : ℕ) (W : Window) (maps : List Map) (old : List ℕ) where
  pub month-maps : maps_in (overwrite (month_of m W maps) old) ≡ length maps
  unfolding month_of
  month-maps = maps-read m W _ _ old

  pub month-m : m_in (overwrite (month_of m W maps) old) ≡ m
  unfolding month_of
  month-m = m-read m W _ _ old

  -- only the cells beyond matter for what is written over a table
  pub month-over : (maps' : List Map) → overwrite (month_of m W maps') (overwrite (month_of m W maps) old) ≡ overwrite (month_of m W maps') old
  month-over maps' =
      overwrite-same (month_of m W maps') old (overwrite (month_of m W maps) old)
      (drop-beyond (month_of m W maps) old (length (month_of m W maps')) (omega (arith, month-length m W maps, month-length m W maps')))

  -- the numbers of pixels, with those of the map
  counts-next : (keys classes : List ℕ) (class : ℕ) → counts_of m W (maps ++ (keys, classes) ∷ []) class ≡ counts_of m W maps class ++ total m keys classes W class ∷ []
  unfolding counts_of
  counts-next keys classes class = map-append (λ (a : Map). total m a.0 a.1 W class) maps ((keys, classes) ∷ [])

  counts-length : (class : ℕ) → length (counts_of m W maps class) ≡ length maps
  unfolding counts_of
  counts-length class = length-map maps (λ (a : Map). total m a.0 a.1 W class)

  pub month-row : (class : ℕ) → class < 256 → row_in (overwrite (month_of m W maps) old) class ≡ row_of (counts_of m W maps class)
  unfolding month_of
  month-row class l = row_read m W _ _ old class l

  pub month-window : window_in (overwrite (month_of m W maps) old) ≡ W
  unfolding month_of
  month-window = window-read m W _ _ old

  pub month-next : (keys classes : List ℕ) → add_map m keys classes (overwrite (month_of m W maps) old) ≡ month_of m W (maps ++ (keys, classes) ∷ [])
  unfolding add_map month_of
  month-next keys classes = rw (month-window, month-maps) (table_same m W (length maps + 1) each ∙ whole)
    where
      each : (class : ℕ) → class < 256 → with_map (eqb (length maps) 0) (total m keys classes W class) (row_in (overwrite (month_of m W maps) old) class)
          ≡ row_of (counts_of m W (maps ++ (keys, classes) ∷ []) class)
      each class l = rw (month-row class l, counts-next keys classes class, ← counts-length class) (row_next (counts_of m W maps class) (total m keys classes W class))

      whole : table_of m W (length maps + 1) (λ (class : ℕ). row_of (counts_of m W (maps ++ (keys, classes) ∷ []) class)) ≡ month_of m W (maps ++ (keys, classes) ∷ [])
      whole = ap (λ (n : ℕ). table_of m W n (λ (class : ℕ). row_of (counts_of m W (maps ++ (keys, classes) ∷ []) class))) (sym (length-append maps ((keys, classes) ∷ [])))

-- ---- what 26 lets pass

suc-times : (n k : ℕ) → (n + 1) * k ≡ n * k + k
suc-times n k = rw (add-one n) (suc-mul n k)

module _ (m : ℕ) where
  -- a table of no map, of a window inside the picture
  pub sane-none : (W : Window) (old : List ℕ) → Inside m W → Sane m (overwrite (month_of m W []) old)
  unfolding counts_of
  sane-none W old I =
      let none = month-maps m W [] old in
      let zeros : (class : ℕ) → class < 256 → row_in (overwrite (month_of m W []) old) class ≡ row 0 0 0 0 = λ class l. month-row m W [] old class l ∙ row-none in
      record {
        inside = rw (month-window m W [] old) I;
        few = omega (arith, none);
        sums = λ class l. omega (arith, ap (λ (x : Row). x.sum) (zeros class l));
        counts = λ class l. omega (arith, ap (λ (x : Row). x.maps) (zeros class l));
      }

  -- and every table that passes, with a map more
  module _ (keys classes table old : List ℕ) where
    abbrev W : Window
    W = window_in table

    abbrev next : ℕ → Row
    next class = with_map (eqb (maps_in table) 0) (total m keys classes W class) (row_in table class)

    abbrev cells : List ℕ
    cells = overwrite (add_map m keys classes table) old

    pub next-m : m_in (overwrite (add_map m keys classes table) old) ≡ m
    unfolding add_map
    next-m = m-read m W (maps_in table + 1) next old

    pub next-window : window_in (overwrite (add_map m keys classes table) old) ≡ window_in table
    unfolding add_map
    next-window = window-read m W (maps_in table + 1) next old

    pub next-maps : maps_in (overwrite (add_map m keys classes table) old) ≡ maps_in table + 1
    unfolding add_map
    next-maps = maps-read m W (maps_in table + 1) next old

    pub next_row : (class : ℕ) → class < 256
        → row_in (overwrite (add_map m keys classes table) old) class ≡ with_map (eqb (maps_in table) 0) (total m keys classes (window_in table) class) (row_in table class)
    unfolding add_map
    next_row class l = row_read m W (maps_in table + 1) next old class l

    next-sum : (class : ℕ) → class < 256 → (row_in cells class).sum ≡ (row_in table class).sum + total m keys classes W class
    next-sum class l = ap (λ (x : Row). x.sum) (next_row class l) ∙ with-sum (eqb (maps_in table) 0) (total m keys classes W class) (row_in table class)

    next-counts : (class : ℕ) → class < 256 → (row_in cells class).maps ≤ (row_in table class).maps + 1
    next-counts class l = omega (arith, ap (λ (x : Row). x.maps) (next_row class l), with-maps (eqb (maps_in table) 0) (total m keys classes W class) (row_in table class))

    pub sane-next : Sane m table → maps_in table < 1000 → Sane m (overwrite (add_map m keys classes table) old)
    sane-next s few =
        let area : ℕ = W.h * W.w in
        let most : maps_in cells * ((window_in cells).h * (window_in cells).w) ≡ maps_in table * area + area =
        ap (λ (n : ℕ). n * ((window_in cells).h * (window_in cells).w)) next-maps ∙ ap (λ (x : Window). (maps_in table + 1) * (x.h * x.w)) next-window ∙ suc-times (maps_in table) area in
        record {
          inside = rw next-window s.inside;
          few = omega (arith, next-maps);
          sums = λ class l. omega (arith, next-sum class l, most, s.sums class l, total-most m keys classes W class);
          counts = λ class l. omega (arith, next-counts class l, next-maps, s.counts class l);
        }
