-- Pixels and their blocks: `place` splits at any exponent and numbers the picture's pixels one to one; a pixel's key and a block's are those of their digits.
-- Assumes nothing.
use mathlib.Core.Path.{◌≡◌, refl, sym, ap, ◌∙◌, subst, subst₂}
use Prim.Native.Nat.{ℕ, zero, suc, ◌+◌, ◌-◌, ◌*◌, ◌/◌, ◌%◌, ◌^◌, ◌≤◌, ◌<◌}
use native.Mathlib.Nat.{pow-suc, add-mul, mul_assoc, mul_comm, zero-mul, zero-add, suc-add, sub-add_cancel, mod-lt, mul-div_cancel_left, div-add-mod'}
use native.Mathlib.Numerals.{one-add}
use native.Mathlib.Omega.{arith}
use lib.Arith.{digits_div, digits_mod}
use lib.Dec.{lit<}
use lib.Pow.{pow-add, pow_mono, pow_pos, shr_lt}
use Rattle.key.specs.Spread.{spread}
use Rattle.key.specs.Picture.{Pixel, place}
use Rattle.key.specs.Key.{pixel_key, block_key}
use Rattle.key.proofs.Standing.{PixelAt}
use Rattle.key.proofs.Bits.{spread-split, spread-bit, spread-lt}
use Rattle.key.proofs.Blocks.{At, whole, quad}

-- ---- a pixel among the blocks of exponent i, and in its block

shrunk : (m i x : ℕ) → i ≤ m → x < 2 ^ m → x / 2 ^ i < 2 ^ (m - i)
shrunk m i x l h = shr_lt (m - i) i (subst (λ (n : ℕ). x < 2 ^ n) (sym (sub-add_cancel l)) h)

pub coarse : {m r c : ℕ} (i : ℕ) → i ≤ m → Pixel m r c → Pixel (m - i) (r / 2 ^ i) (c / 2 ^ i)
coarse {m} {r} {c} i l p = record { row = shrunk m i r l p.row; col = shrunk m i c l p.col }

fine : (i r c : ℕ) → Pixel i (r % 2 ^ i) (c % 2 ^ i)
fine i r c = record { row = mod-lt r (pow_pos i); col = mod-lt c (pow_pos i) }

pub larger : {m n r c : ℕ} → m ≤ n → Pixel m r c → Pixel n r c
larger {m} {n} h p = omega (arith, pow_mono {i = m} {j = n} h)

-- ---- places

sum-split : (x y p u v : ℕ) → 2 * (u + p * x) + (v + p * y) ≡ (2 * x + y) * p + (2 * u + v)
sum-split x y p u v = omega (arith, add-mul (2 * x) y p, mul_assoc 2 x p, mul_comm p x, mul_comm p y)

place-split : (i r c : ℕ) → place r c ≡ place (r / 2 ^ i) (c / 2 ^ i) * 4 ^ i + place (r % 2 ^ i) (c % 2 ^ i)
unfolding place
place-split i r c = rw (spread-split 4 i r, spread-split 4 i c) (sum-split _ _ (4 ^ i) _ _)

pub place_is : (r c : ℕ) → place r c ≡ 2 * spread 4 r + spread 4 c
unfolding place
place_is r c = refl

pub place-lt : {k r c : ℕ} → Pixel k r c → place r c < 4 ^ k
unfolding place
place-lt {k} {r} {c} p = omega (arith, spread-lt 3 k r p.row, spread-lt 3 k c p.col)

pub place-div : (i r c : ℕ) → place r c / 4 ^ i ≡ place (r / 2 ^ i) (c / 2 ^ i)
place-div i r c = ap (λ (n : ℕ). n / 4 ^ i) (place-split i r c) ∙ digits_div _ (place-lt (fine i r c))

-- a block's first place is its corner's
pub corner-place : (i r c : ℕ) → r / 2 ^ i * 2 ^ i ≡ r → c / 2 ^ i * 2 ^ i ≡ c → place r c / 4 ^ i * 4 ^ i ≡ place r c
corner-place i r c er ec =
    let zr : r % 2 ^ i ≡ 0 = omega (arith, div-add-mod' r (2 ^ i)) in
    let zc : c % 2 ^ i ≡ 0 = omega (arith, div-add-mod' c (2 ^ i)) in
    let split : place r c ≡ place (r / 2 ^ i) (c / 2 ^ i) * 4 ^ i + place 0 0 = rw (zr, zc) at (place-split i r c) in
    rw place-div (omega (arith, place-lt {k = 0} {r = 0} {c = 0} (omega arith)))

place-step : (r c : ℕ) → place r c ≡ 4 * place (r / 2) (c / 2) + (2 * (r % 2) + c % 2)
unfolding place
place-step r c =
    omega
    (arith, spread-split 4 1 r, spread-split 4 1 c, spread-bit 4 (r % 2) (mod-lt r (lit< tt)), spread-bit 4 (c % 2) (mod-lt c (lit< tt)))

half : {m r c : ℕ} → Pixel (suc m) r c → Pixel m (r / 2) (c / 2)
half {m} p = omega (arith, pow-suc 2 m)

-- no two pixels have one place
pub place-one : (m r c y x : ℕ) → Pixel m r c → Pixel m y x → place r c ≡ place y x → (r ≡ y) × (c ≡ x)
place-one zero r c y x p q e = omega arith
place-one (suc m) r c y x p q e =
    let s = place-step r c in
    let t = place-step y x in
    let digit : 2 * (r % 2) + c % 2 ≡ 2 * (y % 2) + x % 2 = omega arith in
    let above = place-one m (r / 2) (c / 2) (y / 2) (x / 2) (half p) (half q) (omega arith) in
    omega arith

-- and each place is a pixel's
onto-step : (m q : ℕ) → PixelAt m (q / 4) → PixelAt (suc m) q
onto-step m q a =
    let r : ℕ = 2 * a.row + q % 4 / 2 in
    let c : ℕ = 2 * a.col + q % 2 in
    let er : r / 2 ≡ a.row = omega arith in
    let ec : c / 2 ≡ a.col = omega arith in
    let up : place (r / 2) (c / 2) ≡ q / 4 = rw (er, ec) a.is in
    let digit : 2 * (r % 2) + c % 2 ≡ q % 4 = omega arith in
    record { row = r; col = c; pixel = omega (arith, pow-suc 2 m, a.pixel); is = omega (arith, place-step r c) }

pub place-onto : (m q : ℕ) → q < 4 ^ m → PixelAt m q
place-onto zero q h = record { row = 0; col = 0; pixel = omega arith; is = omega (arith, place-lt {k = 0} {r = 0} {c = 0} (omega arith)) }
place-onto (suc m) q h = onto-step m q (place-onto m (q / 4) (omega (arith, pow-suc 4 m)))

pub no_place : place 0 0 ≡ 0
no_place = omega (arith, place-lt {k = 0} {r = 0} {c = 0} (omega arith))

-- a pixel whose place is a block's first is that block's corner
pub place-corner : (i r c : ℕ) → place r c / 4 ^ i * 4 ^ i ≡ place r c → (r / 2 ^ i * 2 ^ i ≡ r) × (c / 2 ^ i * 2 ^ i ≡ c)
place-corner i r c e =
    let none : place (r % 2 ^ i) (c % 2 ^ i) ≡ place 0 0 = omega (arith, place-split i r c, rw place-div at e, no_place) in
    let z = place-one i (r % 2 ^ i) (c % 2 ^ i) 0 0 (fine i r c) (omega (arith, pow_pos i)) none in
    (omega (arith, z, div-add-mod' r (2 ^ i)), omega (arith, z, div-add-mod' c (2 ^ i)))

-- a pixel in quadrant d of a picture of twice the side
quadrant : (d : ℕ) → d < 4 → place (d / 2) (d % 2) ≡ d
quadrant d l =
    let a : d / 2 / 2 ≡ 0 = omega arith in
    let b : d % 2 / 2 ≡ 0 = omega arith in
    let none : place (d / 2 / 2) (d % 2 / 2) ≡ 0 = rw (a, b) no_place in
    omega (arith, place-step (d / 2) (d % 2))

pub place-quadrant : (k d r c : ℕ) → d < 4 → Pixel k r c → place (d / 2 * 2 ^ k + r) (d % 2 * 2 ^ k + c) ≡ d * 4 ^ k + place r c
place-quadrant k d r c l p =
    place-split k (d / 2 * 2 ^ k + r) (d % 2 * 2 ^ k + c)
    ∙ rw (digits_div (d / 2) p.row, digits_div (d % 2) p.col, digits_mod (d / 2) p.row, digits_mod (d % 2) p.col, quadrant d l)

-- ---- the key of a pixel has the digits of its place, each one more

-- (5 ^ k - 1) / 4 is the key of k digits 1
pub ones : (k : ℕ) → 4 * ((5 ^ k - 1) / 4) + 1 ≡ 5 ^ k
ones zero = refl
ones (suc k) =
    let q : ℕ = (5 ^ k - 1) / 4 in
    let e : 5 ^ suc k - 1 ≡ 4 * (5 * q + 1) = omega (arith, ones k, pow-suc 5 k) in
    let f : (5 ^ suc k - 1) / 4 ≡ 5 * q + 1 = ap (λ (n : ℕ). n / 4) e ∙ mul-div_cancel_left (5 * q + 1) (lit< tt) in
    omega (arith, ones k, pow-suc 5 k)

pub pixel-at : (m r c : ℕ) → Pixel m r c → At m (pixel_key m r c) 0 (place r c)
unfolding pixel_key place
pixel-at zero r c p =
    let er : r ≡ 0 = omega arith in
    let ec : c ≡ 0 = omega arith in
    rw (er, ec, spread-bit 5 0 (lit< tt), spread-bit 4 0 (lit< tt)) whole
pixel-at (suc k) r c p =
    let b : ℕ = r / 2 ^ k in
    let e : ℕ = c / 2 ^ k in
    let hb : b < 2 = shr_lt 1 k (rw one-add p.row) in
    let he : e < 2 = shr_lt 1 k (rw one-add p.col) in
    let key : pixel_key (suc k) r c ≡ 5 ^ k + (2 * b + e) * 5 ^ k + pixel_key k (r % 2 ^ k) (c % 2 ^ k) =
    rw (spread-split 5 k r, spread-split 5 k c, spread-bit 5 b hb, spread-bit 5 e he)
    (omega (arith, sum-split b e (5 ^ k) (spread 5 (r % 2 ^ k)) (spread 5 (c % 2 ^ k)), ones k, ones (suc k), pow-suc 5 k)) in
    let start : place r c ≡ (2 * b + e) * 4 ^ k + place (r % 2 ^ k) (c % 2 ^ k) =
    rw (spread-split 4 k r, spread-split 4 k c, spread-bit 4 b hb, spread-bit 4 e he) (sum-split b e (4 ^ k) _ _) in
    quad (2 * b + e) (omega arith) (pixel-at k (r % 2 ^ k) (c % 2 ^ k) (fine k r c)) key start

-- ---- the key of a block: i zeros after the digits, the same block of a picture whose pixels have side 2 ^ i

zeros : {k key j s : ℕ} (i : ℕ) → At k key j s → At (k + i) (key * 5 ^ i) (j + i) (s * 4 ^ i)
zeros i whole = rw (zero-mul, zero-mul) whole
zeros i (quad {m = k} {key = key} {i = j} {s = s} {key' = key'} {s' = s'} d h a ek es) =
    rw suc-add
    (quad d h (zeros i a)
    (ap (λ (n : ℕ). n * 5 ^ i) ek ∙ rw (add-mul (5 ^ k + d * 5 ^ k), add-mul (5 ^ k), mul_assoc d (5 ^ k), ← pow-add 5 k i))
    (ap (λ (n : ℕ). n * 4 ^ i) es ∙ rw (add-mul (d * 4 ^ k), mul_assoc d (4 ^ k), ← pow-add 4 k i)))

pub block_at : (m i r c : ℕ) → i ≤ m → Pixel m r c → At m (block_key m i r c) i (place r c / 4 ^ i * 4 ^ i)
unfolding block_key
block_at m i r c l p =
    rw place-div
    (subst₂ (λ (n j : ℕ). At n (block_key m i r c) j (place (r / 2 ^ i) (c / 2 ^ i) * 4 ^ i)) (sub-add_cancel l) (zero-add i)
    (zeros i (pixel-at (m - i) (r / 2 ^ i) (c / 2 ^ i) (coarse i l p))))
