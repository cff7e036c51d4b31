-- Digits 1: E of as many bits, and what is between the key of a block and that of its first pixel, its corner.
-- Assumes nothing.
use mathlib.Core.Path.{◌≡◌, refl, sym, ap, ap₂, ◌∙◌}
use mathlib.Core.List.{List, [], ◌∷◌}
use Prim.Native.Nat.{ℕ, zero, suc, ◌+◌, ◌-◌, ◌*◌, ◌/◌, ◌^◌, ◌≤◌}
use native.Mathlib.Nat.{pow-suc, zero-add, zero-mul, mul-div_cancel, div-mul-le_self, pow-le-pow_right}
use native.Mathlib.Omega.{arith}
use lib.Dec.{lit<}
use lib.ListN.{get_or}
use lib.Pow.{pow_pos}
use Rattle.lists.proofs.Laws.{table-entry, table-written}
use Rattle.key.specs.Spread.{spread, E}
use Rattle.key.specs.Picture.{Pixel}
use Rattle.key.specs.Key.{pixel_key, block_key, ones}
use Rattle.key.specs.Along.{ones_table}
use Rattle.key.proofs.Bits.{spread-ones}
use Rattle.key.proofs.Blocks.{At, whole, quad, one_at}
use Rattle.key.proofs.Pixels.{ones as ones-sum, corner-place, pixel-at, block_at}

-- ---- digits 1

pub ones-pow : (k : ℕ) → 4 * ones k + 1 ≡ 5 ^ k
unfolding ones
ones-pow k = ones-sum k

-- a pixel's key, by the digits 1 that it has at least
pub pixel-key-ones : (m r c : ℕ) → pixel_key m r c ≡ ones m + 2 * E r + E c
unfolding pixel_key ones
pixel-key-ones m r c = refl

pub ones-most : (i m : ℕ) → i ≤ m → 4 * ones i + 1 ≤ 5 ^ m
ones-most i m h = omega (arith, ones-pow i, pow-le-pow_right {n = 5} (lit< tt) {i = i} {j = m} h)

ones-next : (k : ℕ) → ones (suc k) ≡ 5 ^ k + ones k
ones-next k = omega (arith, ones-pow k, ones-pow (suc k), pow-suc 5 k)

-- E of as many bits
pub spread-is-ones : (k : ℕ) → spread 5 (2 ^ k - 1) ≡ ones k
spread-is-ones k = omega (arith, ones-pow k, spread-ones 4 k)

-- the table of them
pub ones-entry : {table : List ℕ} (i : ℕ) → table ≡ ones_table → i ≤ 12 → get_or table i 0 ≡ ones i
unfolding ones_table
ones-entry i e h = table-entry ones 13 i e (omega arith)

pub ones-listed : ones_table ≡ 0 ∷ 1 ∷ 6 ∷ 31 ∷ 156 ∷ 781 ∷ 3906 ∷ 19531 ∷ 97656 ∷ 488281 ∷ 2441406 ∷ 12207031 ∷ 61035156 ∷ []
unfolding ones_table ones
ones-listed = sym (table-written ones 0 13)

-- ---- the first pixel of a block

ones-at : (m : ℕ) → At m (ones m) 0 0
ones-at zero = let e : ones 0 ≡ 0 = omega (arith, ones-pow 0) in rw e whole
ones-at (suc m) = quad {key' = ones (suc m)} {s' = 0} 0 (lit< tt) (ones-at m) (omega (arith, ones-next m, zero-mul (5 ^ m))) (omega (arith, zero-mul (4 ^ m)))

pub first-at : {m key i s : ℕ} → At m key i s → At m (key + ones i) 0 s
first-at {m} whole = rw zero-add (ones-at m)
first-at (quad {i = i} {key' = key'} d h a ek es) = quad {key' = key' + ones i} d h (first-at a) (omega arith) es

-- which is its corner
pub corner-pixel : {m r c : ℕ} (i : ℕ) → Pixel m r c → Pixel m (r / 2 ^ i * 2 ^ i) (c / 2 ^ i * 2 ^ i)
corner-pixel {m} {r} {c} i p = omega (arith, div-mul-le_self r (2 ^ i), div-mul-le_self c (2 ^ i))

pub corner-key : {m r c : ℕ} (i : ℕ) → i ≤ m → Pixel m r c → block_key m i r c + ones i ≡ pixel_key m (r / 2 ^ i * 2 ^ i) (c / 2 ^ i * 2 ^ i)
unfolding block_key
corner-key {m} {r} {c} i l p =
    let y : ℕ = r / 2 ^ i * 2 ^ i in
    let x : ℕ = c / 2 ^ i * 2 ^ i in
    let ey : y / 2 ^ i ≡ r / 2 ^ i = mul-div_cancel (r / 2 ^ i) (pow_pos i) in
    let ex : x / 2 ^ i ≡ c / 2 ^ i = mul-div_cancel (c / 2 ^ i) (pow_pos i) in
    let same : block_key m i y x ≡ block_key m i r c = ap₂ (λ (a b : ℕ). pixel_key (m - i) a b * 5 ^ i) ey ex in
    let start = corner-place i y x (ap (λ (n : ℕ). n * 2 ^ i) ey) (ap (λ (n : ℕ). n * 2 ^ i) ex) in
    let p' = corner-pixel i p in
    ap (λ (n : ℕ). n + ones i) (sym same) ∙ one_at (first-at (rw start at (block_at m i y x l p'))) (pixel-at m y x p')
