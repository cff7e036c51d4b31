-- A row by its numbers: with a map more it is that of the numbers with one more.
-- Assumes nothing.
use mathlib.Core.Path.{◌≡◌, refl, sym, ◌∙◌}
use mathlib.Core.Bool.{Bool, cond}
use mathlib.Core.List.{List, [], ◌∷◌, ◌++◌}
use Prim.Native.Nat.{ℕ, suc, ◌+◌, ◌≤◌, ◌<◌}
use native.Mathlib.Decide.{dec_lt}
use native.Mathlib.Omega.{arith}
use lib.Dec.{eqb, ltb}
use lib.ListN.{length}
use borrow.Author.Tests.{eq-eqb, ne_eqb, le-ltb, lt-ltb}
use Rattle.lists.specs.Promises as numbers
use Rattle.lists.specs.Lists.{greatest_of, how_many}
use Rattle.lists.proofs.Laws.{sum-none, sum-next, sum-append, many-empty, many-next, many-append, least-none, least_first, least-behind, greatest-none, greatest-behind}
use Rattle.rows.specs.Rows.{Row, row, with_map}
use Rattle.rows.specs.Promises.{row_of}
use Rattle.rows.proofs.Rows.{once-most}

-- ---- what a map more adds

module _ (first : Bool) (n : ℕ) (x : Row) where
  pub with-sum : (with_map first n x).sum ≡ x.sum + n
  unfolding with_map
  with-sum = refl

  pub with-maps : (with_map first n x).maps ≤ x.maps + 1
  unfolding with_map
  with-maps = omega (arith, once-most n)

-- ---- rows of numbers

pub row-none : row_of [] ≡ row 0 0 0 0
unfolding row_of
row-none = rw (least-none, greatest-none, sum-none, many-empty (ltb 0))

once : (n : ℕ) → how_many (ltb 0) (n ∷ []) ≡ cond (eqb n 0) 0 1
once n = rw (many-next (ltb 0) n [], many-empty (ltb 0)) (go (dec_lt 0 n))
  where
    go : Dec (0 < n) → ◌≡◌ {A = ℕ} (cond (ltb 0 n) 1 0) (cond (eqb n 0) 0 1)
    go (yes l) = rw (lt-ltb 0 n l, ne_eqb n 0 (λ e. omega arith))
    go (no h) = rw (le-ltb 0 n (omega (arith, h)), eq-eqb n 0 (omega (arith, h)))

pub row_next : (ns : List ℕ) (n : ℕ) → with_map (eqb (length ns) 0) n (row_of ns) ≡ row_of (ns ++ n ∷ [])
unfolding with_map row_of
row_next [] n =
    let s : 0 + n ≡ numbers.sum (n ∷ []) = rw (sum-next n [], sum-none) (omega arith) in
    let g : n ≡ greatest_of (n ∷ []) = sym (greatest-behind [] n ∙ rw greatest-none (omega arith)) in
    let m : 0 + cond (eqb n 0) 0 1 ≡ how_many (ltb 0) (n ∷ []) = omega (arith, once n) in
    rw (sum-none, many-empty (ltb 0), s, m, least_first n, ← g)
row_next (k ∷ ns) n =
    let s : numbers.sum (k ∷ ns) + n ≡ numbers.sum (k ∷ (ns ++ n ∷ [])) = sym (sum-append (k ∷ ns) (n ∷ []) ∙ rw (sum-next n [], sum-none) (omega arith)) in
    let m : how_many (ltb 0) (k ∷ ns) + cond (eqb n 0) 0 1 ≡ how_many (ltb 0) (k ∷ (ns ++ n ∷ [])) = sym (many-append (ltb 0) (k ∷ ns) (n ∷ []) ∙ rw (once n)) in
    rw (ne_eqb (suc (length ns)) 0 (λ e. omega arith), s, m, ← least-behind k ns n, ← greatest-behind (k ∷ ns) n)
