-- Zeros taken off behind a number: in steps, until none is left; then these are the only ones, and of a block's key as many as its exponent says.
-- Assumes nothing.
use mathlib.Core.Path.{◌≡◌, refl, sym, ap, ◌∙◌}
use Prim.Native.Nat.{ℕ, suc, ◌+◌, ◌-◌, ◌*◌, ◌/◌, ◌%◌, ◌^◌, ◌≤◌, ◌<◌}
use native.Mathlib.Decide.{dec_lt, ℕ_discrete}
use native.Mathlib.Nat.{eq_of_mul-eq-mul_right, mul_assoc, zero-mod, mul-le-mul_right, mul-mod_left, div-add-mod'}
use native.Mathlib.Omega.{arith}
use lib.Pow.{pow-add}
use Rattle.key.specs.Reading.{Strips}
use Rattle.key.specs.Blocks.{Names}
use Rattle.key.proofs.Powers.{pow-least}
use Rattle.key.proofs.Blocks.{lies, form-at}
use Rattle.key.proofs.Around.{key-zeros, fives}

-- something is left
pub strips-some : {b key zeros rest : ℕ} → Strips b key zeros rest → 1 ≤ rest
strips-some {b} {rest = rest} s = elim (ℕ_discrete rest 0) [ yes z ↦ absurd (s.fewer (rw z (zero-mod (5 ^ b)))) | no n ↦ omega arith ]

-- so fewer are off than the number has digits
pub strips-few : {b key zeros rest : ℕ} (m : ℕ) → Strips b key zeros rest → key < 5 ^ m → zeros < m
strips-few {zeros = zeros} {rest} m s h = fives zeros m (omega (arith, s.is, mul-le-mul_right {m = 1} {n = rest} (5 ^ zeros) (strips-some s)))

times : {n : ℕ} (x a b : ℕ) → n ≡ a + b → x * 5 ^ n ≡ x * 5 ^ a * 5 ^ b
times x a b e = ap (λ (i : ℕ). x * 5 ^ i) e ∙ ap (λ (y : ℕ). x * y) (pow-add 5 a b) ∙ sym (mul_assoc x (5 ^ a) (5 ^ b))

-- a more zeros are off
pub strips-off : (a b : ℕ) {key zeros rest q : ℕ} → Strips (a + b) key zeros rest → q * 5 ^ a ≡ rest → Strips b key (zeros + a) q
strips-off a b {key} {zeros} {rest} {q} s e =
    record {
      is = s.is ∙ ap (λ (x : ℕ). x * 5 ^ zeros) (sym e) ∙ sym (times q a zeros (omega arith));
      fewer = λ z. s.fewer (ap (λ (x : ℕ). x % 5 ^ (a + b)) (many z) ∙ mul-mod_left (q / 5 ^ b) (5 ^ (a + b)));
    }
  where
    many : q % 5 ^ b ≡ 0 → rest ≡ q / 5 ^ b * 5 ^ (a + b)
    many z =
        let n : ℕ = q / 5 ^ b in
        let whole : n * 5 ^ b ≡ q = omega (arith, div-add-mod' q (5 ^ b)) in
        sym e ∙ ap (λ (x : ℕ). x * 5 ^ a) (sym whole) ∙ sym (times n b a (omega arith))

-- all are off: no greater power divides the number
strips-most : {key zeros rest : ℕ} (q e : ℕ) → Strips 1 key zeros rest → key ≡ q * 5 ^ e → e ≤ zeros
strips-most {key} {zeros} {rest} q e s eq = go (dec_lt zeros e)
  where
    go : Dec (zeros < e) → e ≤ zeros
    go (no l) = omega arith
    go (yes l) =
        let d : ℕ = e - suc zeros in
        let over : e ≡ d + 1 + zeros = omega arith in
        let all : q * 5 ^ (d + 1) ≡ rest = eq_of_mul-eq-mul_right (5 ^ zeros) (pow-least 4 zeros) (q * 5 ^ (d + 1)) rest (sym (times q (d + 1) zeros over) ∙ sym eq ∙ s.is) in
        absurd (s.fewer (ap (λ (x : ℕ). x % 5) (sym all ∙ times q d 1 refl) ∙ mul-mod_left (q * 5 ^ d) 5))

-- so the two numbers are the only ones
pub strips-one : {key z w rest left : ℕ} → Strips 1 key z rest → Strips 1 key w left → (z ≡ w) × (rest ≡ left)
strips-one {key} {z} {w} {rest} {left} s t =
    let same : z ≡ w = omega (arith, strips-most rest z t s.is, strips-most left w s t.is) in
    (same, eq_of_mul-eq-mul_right (5 ^ z) (pow-least 4 z) rest left (sym s.is ∙ t.is ∙ ap (λ (x : ℕ). left * 5 ^ x) (sym same)))

-- and of a block's key the zeros are its exponent
pub strips-exponent : {m key i p zeros rest : ℕ} → Names m key i p → Strips 1 key zeros rest → zeros ≡ i
strips-exponent {m} {key} {i} {p} {zeros} {rest} n s =
    let l = lies (form-at m key n.is) in
    let short : zeros < m = strips-few m s (omega (arith, l.keys, pow-least 4 i)) in
    let down : zeros ≤ i = (key-zeros n zeros (omega arith)).0 (ap (λ (x : ℕ). x % 5 ^ zeros) s.is ∙ mul-mod_left rest (5 ^ zeros)) in
    let whole : key / 5 ^ i * 5 ^ i ≡ key = omega (arith, div-add-mod' key (5 ^ i), (key-zeros n i l.small).1 (omega arith)) in
    omega (arith, strips-most (key / 5 ^ i) i s (sym whole))
