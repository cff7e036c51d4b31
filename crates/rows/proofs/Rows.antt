-- The rows of a table in their cells, and the loop that writes them class by class.
-- Assumes nothing.
use mathlib.Core.Path.{◌≡◌, refl, sym, ap, subst, ◌∙◌}
use mathlib.Core.Bool.{Bool, true, false, cond}
use mathlib.Core.List.{List, [], ◌∷◌, ◌++◌, map, map-append, append_assoc, append-nil}
use Prim.Native.Nat.{ℕ, zero, suc, ◌+◌, ◌*◌, ◌≤◌, ◌<◌}
use native.Mathlib.Nat.{zero-add, add-zero}
use native.Mathlib.Numerals.{unary_clauses}
use native.Mathlib.Omega.{arith}
use lib.Dec.{eqb}
use lib.ListN.{length, get_or, take, drop, replicate, length-append, length-map}
use lib.Seq.{length-take-le}
use Rattle.lists.specs.Lists.{up_from}
use Rattle.lists.proofs.Laws.{up_none, up_next, up_one, up-append, up-length}
use Rattle.answers.specs.Cells.{overwrite}
use Rattle.answers.proofs.Laws.{Filling, filling-front, filling-beyond, filling-sets}
use Rattle.rows.specs.Rows.{Row, row, row_cells, row_in, with_map}
use Rattle.rows.specs.Growing.{put_row, grown, grow_rows}

-- ---- rows in their cells

cells-append : (xs ys : List Row) → row_cells (xs ++ ys) ≡ row_cells xs ++ row_cells ys
unfolding row_cells
cells-append [] ys = refl
cells-append (x ∷ xs) ys = ap (λ (t : List ℕ). x.least ∷ x.greatest ∷ x.sum ∷ x.maps ∷ t) (cells-append xs ys)

pub cells-length : (xs : List Row) → length (row_cells xs) ≡ 4 * length xs
unfolding row_cells
cells-length [] = refl
cells-length (x ∷ xs) = omega (arith, cells-length xs)

-- those of one row, and behind them the others'
pub cells-next : (x : Row) (xs : List Row) → row_cells (x ∷ xs) ≡ x.least ∷ x.greatest ∷ x.sum ∷ x.maps ∷ row_cells xs
unfolding row_cells
cells-next x xs = refl

-- behind the cells of k rows stand those of row k
pub behind-rows : (f : ℕ → Row) (a n k : ℕ) → k < n → (rest : List Row) × (drop (4 * k) (row_cells (map f (up_from a n))) ≡ row_cells (f (a + k) ∷ rest))
unfolding row_cells
behind-rows f a zero k l = absurd (omega arith)
behind-rows f a (suc n) zero l = (map f (up_from (suc a) n), rw (up_next a n, add-zero a))
behind-rows f a (suc n) (suc k) l =
    let ih = behind-rows f (suc a) n k (omega arith) in
    let four : 4 * suc k ≡ suc (suc (suc (suc (4 * k)))) = omega arith in
    let same : a + suc k ≡ suc a + k = omega arith in
    (ih.0, rw (up_next a n, four, same) ih.1)

-- rows of zeros
pub zero-rows : (a n : ℕ) → row_cells (map (λ (class : ℕ). row 0 0 0 0) (up_from a n)) ≡ replicate (4 * n) 0
unfolding row_cells
zero-rows a zero = rw (up_none a)
zero-rows a (suc n) =
    let four : 4 * suc n ≡ suc (suc (suc (suc (4 * n)))) = omega arith in
    rw (up_next a n, four, zero-rows (suc a) n)

-- a map counts at most once
pub once-most : (n : ℕ) → cond (eqb n 0) 0 1 ≤ 1
once-most n = go (eqb n 0)
  where
    go : (t : Bool) → cond t 0 1 ≤ 1
    go true = omega arith
    go false = omega arith

-- ---- a row that is written behind what stands already

module _ {part table₀ table : List ℕ} (f : Filling part table₀ table) (class : ℕ) (e : length part ≡ 6 + 4 * class) where
  row_kept : row_in table class ≡ row_in table₀ class
  row_kept =
      let at : ℕ = 6 + 4 * class in
      rw (
        filling-beyond f at (omega (arith, e)),
        filling-beyond f (at + 1) (omega (arith, e)),
        filling-beyond f (at + 2) (omega (arith, e)),
        filling-beyond f (at + 3) (omega (arith, e)),
      )

  row_put : (x : Row) → 10 + 4 * class ≤ length table₀ → Filling (part ++ row_cells (x ∷ [])) table₀ (put_row class x table)
  unfolding put_row row_cells
  row_put x l = simp unary_clauses (filling-sets f (6 + 4 * class) e (row_cells (x ∷ [])) (omega arith))

-- ---- the loop

-- the rows of the first k classes have grown
pub record Growing (first : Bool) (counts table₀ table : List ℕ) (k : ℕ) : Type 0 where
  pub few : k ≤ 256
  pub cells : Filling (take 6 table₀ ++ row_cells (map (grown first counts table₀) (up_from 0 k))) table₀ table

pub grow-is : (first : Bool) (counts table : List ℕ)
    → grow_rows first counts table ≡ overwrite (take 6 table ++ row_cells (map (grown first counts table) (up_from 0 256))) table
unfolding grow_rows
grow-is first counts table = refl

module _ (first : Bool) (counts table₀ : List ℕ) where
  abbrev rows : ℕ → List Row
  rows k = map (grown first counts table₀) (up_from 0 k)

  many : (k : ℕ) → length (row_cells (rows k)) ≡ 4 * k
  many k = cells-length (rows k) ∙ rw (length-map (up_from 0 k) (grown first counts table₀), up-length 0 k)

  rows-length : 1030 ≤ length table₀ → (k : ℕ) → length (take 6 table₀ ++ row_cells (rows k)) ≡ 6 + 4 * k
  rows-length l k = length-append (take 6 table₀) (row_cells (rows k)) ∙ rw (many k, length-take-le 6 table₀ (omega arith))

  pub growing-first : 1030 ≤ length table₀ → Growing first counts table₀ table₀ 0
  unfolding row_cells
  growing-first l =
      let none : take 6 table₀ ++ row_cells (rows 0) ≡ take 6 table₀ = rw up_none (append-nil (take 6 table₀)) in
      record { few = omega arith; cells = rw none (filling-front 6 table₀ (omega arith)) }

  module _ (l : 1030 ≤ length table₀) {table : List ℕ} {k : ℕ} (g : Growing first counts table₀ table k) where
    -- the next row is as it was
    pub growing-row : row_in table k ≡ row_in table₀ k
    growing-row = row_kept g.cells k (rows-length l k)

    pub growing-next : k < 256 → {table' : List ℕ} → table' ≡ put_row k (with_map first (get_or counts k 0) (row_in table k)) table → Growing first counts table₀ table' (k + 1)
    growing-next h {table'} e =
        let x : Row = grown first counts table₀ k in
        let more : map (grown first counts table₀) (up_from 0 (k + 1)) ≡ rows k ++ x ∷ [] =
        ap (map (grown first counts table₀)) (up-append 0 k 1) ∙ map-append (grown first counts table₀) (up_from 0 k) (up_from (0 + k) 1) ∙ rw (zero-add k, up_one k) in
        let list : take 6 table₀ ++ row_cells (rows k) ++ row_cells (x ∷ []) ≡ take 6 table₀ ++ row_cells (map (grown first counts table₀) (up_from 0 (k + 1))) =
        append_assoc (take 6 table₀) (row_cells (rows k)) (row_cells (x ∷ [])) ∙ ap (λ (t : List ℕ). take 6 table₀ ++ t)
        (sym (cells-append (rows k) (x ∷ [])) ∙ ap row_cells (sym more)) in
        let put : Filling (take 6 table₀ ++ row_cells (rows k) ++ row_cells (x ∷ [])) table₀ table' =
        rw (e, growing-row) (row_put g.cells k (rows-length l k) x (omega arith)) in
        record { few = omega arith; cells = subst (λ (part : List ℕ). Filling part table₀ table') list put }

    pub growing-last : 256 ≤ k → table ≡ grow_rows first counts table₀
    unfolding grow_rows
    growing-last h = let all : k ≡ 256 = omega (arith, g.few) in subst (λ (n : ℕ). table ≡ overwrite (take 6 table₀ ++ row_cells (rows n)) table₀) all g.cells.is
