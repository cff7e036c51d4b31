-- Adding: what is answered and left, and the table with a map more.
-- Assumes nothing.
use mathlib.Core.Path.{◌≡◌, refl, ap, ◌∙◌}
use mathlib.Core.List.{List, [], ◌∷◌, ◌++◌, map, append_assoc, Memᴰ}
use Prim.Native.Nat.{ℕ, ◌+◌, ◌*◌, ◌≤◌}
use native.Mathlib.Nat.{mul-le-mul}
use native.Mathlib.Omega.{arith}
use lib.Dec.{eqb}
use lib.ListN.{length, get_or, set, take, drop, length-set, length-map}
use lib.Seq.{get_or-set_other, drop-set-lt}
use Rattle.lists.specs.Lists.{up_from}
use Rattle.lists.proofs.Laws.{up_in, up-length, map_same}
use Rattle.std.specs.Prelude.{Result, Ok}
use Rattle.answers.specs.declared.Refused.{Refused}
use Rattle.answers.specs.Refusals.{answer, refuse}
use Rattle.answers.specs.Cells.{overwrite}
use Rattle.answers.specs.After.{After, after, unless}
use Rattle.answers.proofs.Laws.{answer-part, overwrite-same}
use Rattle.window.specs.declared.Window.{Window}
use Rattle.window.proofs.Laws.{inside-12, pixels-most}
use Rattle.used.specs.Used.{spent}
use Rattle.totals.specs.Totals.{total, totals}
use Rattle.totals.proofs.Laws.{totals-length, totals-at, total-most}
use Rattle.rows.specs.Rows.{Row, row_cells, row_in, with_map}
use Rattle.month.specs.Month.{head_of, table_of, m_in, window_in, maps_in, add_map, add_refusals, add_of}
use Rattle.rows.specs.Growing.{grown, grow_rows, AllFit}
use Rattle.month.specs.Promises.{Sane}
use Rattle.rows.proofs.Laws.{cells-length, grow-is}

-- ---- the table

pub table-length : (m : ℕ) (W : Window) (maps : ℕ) (rows : ℕ → Row) → length (table_of m W maps rows) ≡ 1030
unfolding table_of
table-length m W maps rows = omega (arith, cells-length (map rows (up_from 0 256)), length-map (up_from 0 256) rows, up-length 0 256)

pub map-length : (m : ℕ) (keys classes table : List ℕ) → length (add_map m keys classes table) ≡ 1030
unfolding add_map
map-length m keys classes table = table-length m (window_in table) _ _

-- maps with the same totals in its window add the same
pub map-totals : (m : ℕ) (keys classes keys' classes' table : List ℕ)
    → ((class : ℕ) → total m keys classes (window_in table) class ≡ total m keys' classes' (window_in table) class) → add_map m keys classes table ≡ add_map m keys' classes' table
unfolding add_map table_of
map-totals m keys classes keys' classes' table same =
    ap (λ (rows : List Row). head_of m (window_in table) ++ (maps_in table + 1) ∷ row_cells rows)
    (map_same (up_from 0 256) (λ class l. ap (λ (n : ℕ). with_map (eqb (maps_in table) 0) n (row_in table class)) (same class)))

-- the first six cells, when the number of maps has been stored
six-cells : (l : List ℕ) (v : ℕ) → 6 ≤ length l → take 6 (set l 5 v) ≡ head_of (m_in l) (window_in l) ++ v ∷ []
six-cells [] v h = absurd (omega arith)
six-cells (a ∷ []) v h = absurd (omega arith)
six-cells (a ∷ b ∷ []) v h = absurd (omega arith)
six-cells (a ∷ b ∷ c ∷ []) v h = absurd (omega arith)
six-cells (a ∷ b ∷ c ∷ d ∷ []) v h = absurd (omega arith)
six-cells (a ∷ b ∷ c ∷ d ∷ e ∷ []) v h = absurd (omega arith)
six-cells (a ∷ b ∷ c ∷ d ∷ e ∷ f ∷ l) v h = refl

-- storing it changes no row
row_apart : (table : List ℕ) (v class : ℕ) → row_in (set table 5 v) class ≡ row_in table class
row_apart table v class =
    let at : ℕ = 6 + 4 * class in
    let other : (i : ℕ) → 6 ≤ i → get_or (set table 5 v) i 0 ≡ get_or table i 0 = λ i l. get_or-set_other table 5 i v 0 (λ e. omega (arith, l, e)) in
    rw (other at (omega arith), other (at + 1) (omega arith), other (at + 2) (omega arith), other (at + 3) (omega arith))

-- the rows grown from there are those of the table with the map
module _ (m : ℕ) (keys classes table : List ℕ) (long : 1030 ≤ length table) (same : m_in table ≡ m) where
  abbrev stored : List ℕ
  stored = set table 5 (maps_in table + 1)

  abbrev more : ℕ → Row
  more class = with_map (eqb (maps_in table) 0) (total m keys classes (window_in table) class) (row_in table class)

  pub grown-stored : {counts : List ℕ} → counts ≡ totals m keys classes (window_in table)
      → grow_rows (eqb (maps_in table) 0) counts (set table 5 (maps_in table + 1)) ≡ overwrite (add_map m keys classes table) table
  unfolding add_map table_of
  grown-stored {counts} c =
      let rows : map (grown (eqb (maps_in table) 0) counts stored) (up_from 0 256) ≡ map more (up_from 0 256) = map_same (up_from 0 256) each in
      let cells : take 6 stored ++ row_cells (map (grown (eqb (maps_in table) 0) counts stored) (up_from 0 256)) ≡ add_map m keys classes table =
      rw (rows, six-cells table (maps_in table + 1) (omega arith), same) (append_assoc (head_of m (window_in table)) ((maps_in table + 1) ∷ []) (row_cells (map more (up_from 0 256)))) in
      let all : ℕ = length (add_map m keys classes table) in
      let beyond : drop all stored ≡ drop all table = drop-set-lt all table 5 (maps_in table + 1) (omega (arith, map-length m keys classes table)) in
      grow-is (eqb (maps_in table) 0) counts stored ∙ ap (λ (x : List ℕ). overwrite x stored) cells ∙ overwrite-same (add_map m keys classes table) table stored beyond
    where
      each : (class : ℕ) → Memᴰ class (up_from 0 256) → grown (eqb (maps_in table) 0) counts stored class ≡ more class
      each class l =
          let pixels : get_or counts class 0 ≡ total m keys classes (window_in table) class =
          ap (λ (x : List ℕ). get_or x class 0) c ∙ totals-at m keys classes (window_in table) class ((up_in 0 256 class).0 l).1 in
          rw (pixels, row_apart table (maps_in table + 1) class)

  -- and each has room for the map
  pub stored-fits : m ≤ 12 → Sane m table → {counts : List ℕ} → counts ≡ totals m keys classes (window_in table) → AllFit counts (set table 5 (maps_in table + 1))
  stored-fits l s {counts} c =
      let W = window_in table in
      let most = pixels-most W (inside-12 l s.inside) in
      record {
        long = omega (arith, length-set table 5 (maps_in table + 1));
        each = ap length c ∙ totals-length m keys classes W;
        small = λ class h. omega (arith, ap (λ (x : List ℕ). get_or x class 0) c, totals-at m keys classes W class h, total-most m keys classes W class, most);
        fits = λ class h. rw (row_apart table (maps_in table + 1) class) (record {
          sums = omega (arith, s.sums class h, mul-le-mul s.few most);
          counts = omega (arith, s.counts class h, s.few);
        });
      }

-- ---- what is answered and left

module _ (m : ℕ) (keys classes border table : List ℕ) where
  -- all behind one table of refusals
  pub add_is : add_of m keys classes border table
      ≡ unless refuse (add_refusals m keys (length classes) (length border) table) (border, table)
      (after (Ok (maps_in table + 1)) (spent (window_in table) border, overwrite (add_map m keys classes table) table))
  unfolding add_of
  add_is = refl

  -- of the border only the length counts for the table
  pub add-table : (add_of m keys classes border table).lent.1
      ≡ answer (λ c p. table) (add_refusals m keys (length classes) (length border) table) (overwrite (add_map m keys classes table) table)
  add-table =
      ap (λ (x : After (Result ℕ Refused) (List ℕ × List ℕ)). x.lent.1) add_is
      ∙ answer-part (λ (x : After (Result ℕ Refused) (List ℕ × List ℕ)). x.lent.1) (λ c p. after (refuse c p) (border, table)) (add_refusals m keys (length classes) (length border) table) _
