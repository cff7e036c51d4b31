-- The key of the pixel at a place, digit by digit from the first on.
-- Assumes nothing.
use mathlib.Core.Path.{◌≡◌, sym, ap, subst, ◌∙◌}
use Prim.Native.Nat.{ℕ, suc, ◌+◌, ◌-◌, ◌*◌, ◌/◌, ◌%◌, ◌^◌, ◌≤◌, ◌<◌}
use native.Mathlib.Nat.{pow-suc, div-one, div-eq_of_lt, div-div-eq-div-mul}
use native.Mathlib.Numerals.{add-one}
use native.Mathlib.Omega.{arith}
use Rattle.std.specs.Prelude.{Some}
use Rattle.key.specs.Form.{form_of, span}
use Rattle.key.specs.Promises.{joined}
use Rattle.key.specs.Blocks.{Names}
use Rattle.key.proofs.Powers.{pow-most}
use Rattle.key.proofs.Joined.{form-cut}
use Rattle.key.proofs.Named.{whole-named, block-lies}
use Rattle.key.proofs.Reading.{digit-told}

-- one digit more
pixel-digit : {k key q d : ℕ} → Names k key 0 q → d < 4 → Names (suc k) (5 * key + d + 1) 0 (4 * q + d)
unfolding joined
pixel-digit {k} {key} {q} {d} n l = record { is = go }
  where
    x : ℕ
    x = 5 * key + d + 1

    go : form_of (suc k) x ≡ Some (span 0 (4 * q + d))
    go =
        let low : x % 5 ^ 1 ≡ suc d = omega arith in
        let high : x / 5 ^ 1 ≡ key = omega arith in
        let e : q * 4 ^ 1 + (suc d - 1) ≡ 4 * q + d = omega arith in
        ap (λ (m : ℕ). form_of m x) (sym (add-one k)) ∙ form-cut k 1 x ∙ rw (low, high, digit-told {x = suc d} (omega arith) (omega arith), n.is, e)

-- the first k digits of a pixel's key are those of the pixel's block of k digits, by its place among such blocks
pub record Digits (m place k key : ℕ) : Type 0 where
  pub within : k ≤ m
  pub names : Names k key 0 (place / 4 ^ (m - k))

pub digits-first : (m : ℕ) {place : ℕ} → place < 4 ^ m → Digits m place 0 0
digits-first m {place} l = let z : m - 0 ≡ m = omega arith in record { within = omega arith; names = rw (z, div-eq_of_lt l) (whole-named 0) }

module _ {m place k key : ℕ} (D : Digits m place k key) where
  pub digits-next : {p : ℕ} → k < m → p ≡ 4 ^ (m - (k + 1)) → Digits m place (k + 1) (5 * key + place / p % 4 + 1)
  digits-next {p} l e =
      let left : m - k ≡ suc (m - (k + 1)) = omega arith in
      let q : ℕ = place / 4 ^ (m - (k + 1)) in
      let digit : ℕ = q % 4 in
      let above : place / 4 ^ (m - k) ≡ q / 4 = rw (left, pow-suc 4 (m - (k + 1))) (sym (div-div-eq-div-mul place (4 ^ (m - (k + 1))) 4)) in
      let d : q ≡ 4 * (q / 4) + digit = omega arith in
      let n = pixel-digit {d = digit} (rw above at D.names) (omega arith) in
      rw e (record { within = omega arith; names = subst (λ (j : ℕ). Names j (5 * key + digit + 1) 0 q) (sym (add-one k)) (rw (← d) at n) })

  pub digits-most : m ≤ 12 → key < 5 ^ 12
  digits-most l = omega (arith, (block-lies D.names).keys, pow-most 4 k (omega (arith, D.within)))

  pub digits_last : m ≤ k → Names m key 0 place
  digits_last l = let e : k ≡ m = omega (arith, D.within) in let z : m - m ≡ 0 = omega arith in rw (e, z, div-one place) at D.names
