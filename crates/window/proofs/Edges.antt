-- What a block of a window is known by at an edge. Where the block of twice its side sticks out, a block of side 2 ^ e stands within 2 ^ e of the window's north, south,
-- west or east edge. At one edge it is known by its middle along the edge, twice which is 2 x + 2 ^ e: a number of w (or h) columns' width, so it takes fewer than 2 w
-- (or 2 h) values.
-- Assumes nothing.
use mathlib.Core.Path.{◌≡◌, sym, ap, ◌∙◌}
use Prim.Native.Nat.{ℕ, zero, suc, ◌+◌, ◌-◌, ◌*◌, ◌^◌, ◌≤◌, ◌<◌}
use native.Mathlib.Decide.{dec_le}
use native.Mathlib.Nat.{pow-succ'}
use native.Mathlib.Omega.{arith}
use lib.Pow.{pow_pos}
use Rattle.window.specs.Blocks.{floor}
use Rattle.window.proofs.Dyadic.{floor-eq, floor-add, aligned-down, nested}

-- ---- aligned numbers

-- two aligned numbers that differ by less than the side
pub close : (i : ℕ) {x y : ℕ} → floor i x ≡ x → floor i y ≡ y → x < y + 2 ^ i → y < x + 2 ^ i → x ≡ y
close i {x} {y} a b h l = go (dec_le x y)
  where
    go : Dec (x ≤ y) → x ≡ y
    go (yes g) = omega (arith, floor-eq i x y (omega arith) (omega arith))
    go (no g) = omega (arith, floor-eq i y x (omega arith) (omega arith))

-- blocks of two sides have different middles
middles : {i j x y : ℕ} → floor i x ≡ x → floor j y ≡ y → 2 * x + 2 ^ i ≡ 2 * y + 2 ^ j → ¬ (i < j)
middles {i} {j = suc k} {x} {y} a b e h =
    let q : 2 ^ suc k ≡ 2 * 2 ^ k = pow-succ' 2 k in
    let mid : floor i (y + 2 ^ k) ≡ y + 2 ^ k = aligned-down (omega arith) (floor-add k y ∙ ap (λ (z : ℕ). z + 2 ^ k) (aligned-down {j = suc k} (omega arith) b)) in
    omega (arith, floor-eq i x (y + 2 ^ k) (omega arith) (omega (arith, pow_pos i)), pow_pos i)
middles {i} {j = zero} a b e h = omega arith

middle-side : {i j x y : ℕ} → floor i x ≡ x → floor j y ≡ y → 2 * x + 2 ^ i ≡ 2 * y + 2 ^ j → i ≡ j
middle-side a b e = omega (arith, middles a b e, middles b a (sym e))

-- two blocks with one middle along an edge, that of x or x', less than a side apart across it, at y or y'
along : (i j x y x' y' : ℕ) → floor i x ≡ x → floor i y ≡ y → floor j x' ≡ x' → floor j y' ≡ y' → 2 * x + 2 ^ i ≡ 2 * x' + 2 ^ j
    → (2 ^ i ≡ 2 ^ j → (y < y' + 2 ^ i) × (y' < y + 2 ^ i)) → (x ≡ x') × (y ≡ y')
along i j x y x' y' ax ay ax' ay' e f =
    let d : i ≡ j = middle-side ax ax' e in
    let q : 2 ^ i ≡ 2 ^ j = ap (λ (n : ℕ). 2 ^ n) d in
    let g = f q in
    (omega arith, close i ay (rw d ay') g.0 g.1)

-- ---- one axis across an edge of the window, and one along it

-- of n numbers from a on, the block of side 2 ^ i that begins at x
pub record On (i a n x : ℕ) : Type 0 where
  pub aligned : floor i x ≡ x
  pub low : a ≤ x
  pub high : x + 2 ^ i ≤ a + n

-- A block begins at y across and at x along. It stands within its side of the near edge or of the far one, and k tells which, and where along it.
pub data Stands (a n c w i y x k : ℕ) : Type 0 where
  near : y < a + 2 ^ i → suc k + 2 * c ≡ 2 * x + 2 ^ i → Stands a n c w i y x k
  far : a + n < y + 2 * 2 ^ i → suc k + 2 * c ≡ 2 * w + (2 * x + 2 ^ i) → Stands a n c w i y x k

module _ {a n c w i y x : ℕ} (u : On i a n y) (v : On i c w x) where
  pub stands-less : {k : ℕ} → Stands a n c w i y x k → suc k < 4 * w
  stands-less (near h e) = omega (arith, u, v, pow_pos i)
  stands-less (far h e) = omega (arith, u, v, pow_pos i)

  pub stands_one : {j y' x' k : ℕ} → On j a n y' → On j c w x' → Stands a n c w i y x k → Stands a n c w j y' x' k → (x ≡ x') × (y ≡ y')
  stands_one {j} {y'} {x'} u' v' (near h e) (near h' e') = along i j x y x' y' v.aligned u.aligned v'.aligned u'.aligned (omega arith) (λ q. omega (arith, u, u'))
  stands_one {j} {y'} {x'} u' v' (far h e) (far h' e') = along i j x y x' y' v.aligned u.aligned v'.aligned u'.aligned (omega arith) (λ q. omega (arith, u, u'))
  stands_one {j} u' v' (near h e) (far h' e') = absurd (omega (arith, v, v', pow_pos i, pow_pos j))
  stands_one {j} u' v' (far h e) (near h' e') = absurd (omega (arith, v, v', pow_pos i, pow_pos j))

  -- where the block of twice the side sticks out across
  pub stands-some : ((a ≤ floor (suc i) y) × (floor (suc i) y + 2 ^ suc i ≤ a + n) → ⊥) → (k : ℕ) × Stands a n c w i y x k
  stands-some out = go (dec_le a (floor (suc i) y)) (dec_le (floor (suc i) y + 2 ^ suc i) (a + n))
    where
      q : 2 ^ suc i ≡ 2 * 2 ^ i
      q = pow-succ' 2 i

      r : (floor (suc i) y ≤ floor i y) × (floor i y + 2 ^ i ≤ floor (suc i) y + 2 ^ suc i)
      r = nested i (suc i) y (omega arith)

      go : Dec (a ≤ floor (suc i) y) → Dec (floor (suc i) y + 2 ^ suc i ≤ a + n) → (k : ℕ) × Stands a n c w i y x k
      go (yes g) (yes h) = absurd (out (g, h))
      go (no g) d = (2 * x + 2 ^ i - suc (2 * c), near (omega (arith, u, q, r)) (omega (arith, v, pow_pos i)))
      go (yes g) (no h) = (2 * w + (2 * x + 2 ^ i) - suc (2 * c), far (omega (arith, u, q, r)) (omega (arith, v, pow_pos i)))
