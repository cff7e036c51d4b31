-- Numbers down to a multiple of a power, over any base but 0: between which two multiples a number lies, and that those of a larger power lie around those of a smaller one.
-- Assumes nothing.
use mathlib.Core.Path.{◌≡◌, ap}
use Prim.Native.Nat.{ℕ, suc, ◌+◌, ◌-◌, ◌*◌, ◌/◌, ◌^◌, ◌≤◌, ◌<◌}
use native.Mathlib.Nat.{div-mul-le_self, lt-div-mul-add, mul-le-mul_right, add-sub_of_le, div-eq_of_lt-le, div-div-eq-div-mul, one-le-pow, pow-zero, zero-lt-suc}
use native.Mathlib.Omega.{arith}
use lib.Pow.{pow-add}

module _ (b : ℕ) where
  -- x, down to a multiple of (b + 1) ^ i
  abbrev pub down : ℕ → ℕ → ℕ
  down i x = x / suc b ^ i * suc b ^ i

  pub down_le : (i x : ℕ) → down i x ≤ x
  down_le i x = div-mul-le_self x (suc b ^ i)

  least : (i : ℕ) → 1 ≤ suc b ^ i
  least i = one-le-pow i (suc b) (zero-lt-suc b)

  pub down_lt : (i x : ℕ) → x < down i x + suc b ^ i
  down_lt i x = lt-div-mul-add (least i)

  -- a number between two multiples has the lower one
  pub down-eq : (i x y : ℕ) → down i x ≤ y → y < down i x + suc b ^ i → down i y ≡ down i x
  down-eq i x y h l = ap (λ (q : ℕ). q * suc b ^ i) (div-eq_of_lt-le (suc b ^ i) h (omega (arith, l)))

  pub down-zero : (x : ℕ) → down 0 x ≡ x
  down-zero x = omega (arith, down_le 0 x, down_lt 0 x, pow-zero (suc b))

  nested-add : (i k x : ℕ) → (down (i + k) x ≤ down i x) × (down i x + suc b ^ i ≤ down (i + k) x + suc b ^ (i + k))
  nested-add i k x =
      let a : ℕ = x / suc b ^ i in
      rw (pow-add, ← div-div-eq-div-mul x (suc b ^ i) (suc b ^ k))
      (omega (arith, mul-le-mul_right (suc b ^ i) (div-mul-le_self a (suc b ^ k))), omega (arith, mul-le-mul_right (suc b ^ i) (lt-div-mul-add {a = a} (least k))))

  pub down-nested : (i j x : ℕ) → i ≤ j → (down j x ≤ down i x) × (down i x + suc b ^ i ≤ down j x + suc b ^ j)
  down-nested i j x h = rw (add-sub_of_le h) at (nested-add i (j - i) x)

  pub down-up : (i j x y : ℕ) → i ≤ j → down i x ≡ down i y → down j x ≡ down j y
  down-up i j x y h e = let n = down-nested i j y h in down-eq j y x (omega (arith, down_le i x)) (omega (arith, down_lt i x))
