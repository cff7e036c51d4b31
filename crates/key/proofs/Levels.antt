-- Keys by the list of their digits: a number is the key of a block of level d exactly when d digits from 1 to 4 come first and zeros follow.
-- Assumes nothing.
use mathlib.Core.Path.{◌≡◌, refl, sym, ap, ap₂, ◌∙◌}
use mathlib.Core.Logic.{◌↔◌, inl, inr}
use mathlib.Core.List.Memᴰ
use mathlib.Core.List.{List, [], ◌∷◌, ◌++◌, Memᴰ}
use Prim.Native.Nat.{ℕ, zero, suc, ◌+◌, ◌-◌, ◌*◌, ◌/◌, ◌%◌, ◌^◌, ◌≤◌, ◌<◌}
use native.Mathlib.Nat.{mul_assoc, pow-succ', pow-zero, zero-add, sub-zero, zero-div, zero-mod}
use native.Mathlib.Nat.{mod-lt, mod-eq_of_lt, div-add-mod', mul-add-div_right, mul-add-mod_self_right, div-lt_iff_lt-mul, le-div_iff_mul-le}
use native.Mathlib.Omega.{arith}
use lib.ListN.{length, replicate}
use Rattle.key.specs.Promises.{low_digits, LevelBlock, LevelDigits}
use Rattle.key.proofs.Powers.{pow-least}
use Rattle.key.proofs.Digits.{form-whole, first-most, first-split}
use Rattle.key.proofs.Blocks.{At, whole, quad, lies, at-form, form-at, first-digit}
use Rattle.key.proofs.Spans.{same-exponent}

-- ---- the digits of a number, over any base but 0

module _ (b : ℕ) where
  digits-zero : (k : ℕ) → low_digits (suc b) k 0 ≡ replicate k 0
  unfolding low_digits
  digits-zero zero = refl
  digits-zero (suc k) = rw (zero-div, zero-mod, digits-zero k)

  -- what stands above the k low digits does not count
  digits_above : (k c x : ℕ) → low_digits (suc b) k (c * suc b ^ k + x) ≡ low_digits (suc b) k x
  unfolding low_digits
  digits_above zero c x = refl
  digits_above (suc k) c x =
      let e : c * suc b ^ suc k + x ≡ c * suc b * suc b ^ k + x = rw (pow-succ', mul_assoc) in
      rw (e, mul-add-div_right (pow-least b k) (c * suc b) x, mul-add-mod_self_right c (suc b) (x / suc b ^ k), digits_above k (c * suc b) x)

  digits_low : (k x : ℕ) → low_digits (suc b) k x ≡ low_digits (suc b) k (x % suc b ^ k)
  digits_low k x = ap (low_digits (suc b) k) (sym (div-add-mod' x (suc b ^ k))) ∙ digits_above k (x / suc b ^ k) (x % suc b ^ k)

  -- the first of k + 1 digits
  first_of : (k x : ℕ) → x < suc b ^ suc k → x / suc b ^ k % suc b ≡ x / suc b ^ k
  first_of k x h = mod-eq_of_lt ((div-lt_iff_lt-mul (pow-least b k)).1 (rw pow-succ' at h))

  -- a number of k digits has them alone
  pub digits-one : (k x y : ℕ) → x < suc b ^ k → y < suc b ^ k → low_digits (suc b) k x ≡ low_digits (suc b) k y → x ≡ y
  unfolding low_digits
  digits-one zero x y h g e = omega (arith, pow-zero (suc b))
  digits-one (suc k) x y h g e =
      let p : ℕ = suc b ^ k in
      let first : x / p ≡ y / p = cc (first_of k x h, first_of k y g) in
      let others : low_digits (suc b) k x ≡ low_digits (suc b) k y = cc in
      let rest : x % p ≡ y % p = digits-one k (x % p) (y % p) (mod-lt x (pow-least b k)) (mod-lt y (pow-least b k)) (sym (digits_low k x) ∙ others ∙ digits_low k y) in
      sym (div-add-mod' x p) ∙ ap₂ (λ (q r : ℕ). q * p + r) first rest ∙ div-add-mod' y p

-- ---- a key, digit by digit: those of its front are from 1 to 4, and i zeros follow

record Parts (m key i : ℕ) (front : List ℕ) : Type 0 where
  long : length front + i ≡ m
  nonzero : (c : ℕ) → Memᴰ c front → (1 ≤ c) × (c ≤ 4)
  is : low_digits 5 m key ≡ front ++ replicate i 0

at-parts : {m key i s : ℕ} → At m key i s → (front : List ℕ) × Parts m key i front
unfolding low_digits
at-parts {m} whole = ([], record { long = zero-add m; nonzero = λ c l. absurd (Memᴰ.not-nil l); is = digits-zero 4 m })
at-parts (quad {m = m} {i = i} {key' = key'} d h a ek es) =
    let (front, p) = at-parts a in
    let f = first-digit d a ek in
    let first : key' / 5 ^ m % 5 ≡ suc d = omega arith in
    let each : (c : ℕ) → Memᴰ c (suc d ∷ front) → (1 ≤ c) × (c ≤ 4) = λ c l. elim (Memᴰ.cases_cons l) [ inl e ↦ omega arith | inr t ↦ p.nonzero c t ] in
    (suc d ∷ front, record { long = omega arith; nonzero = each; is = rw (first, digits_low 4 m key', f.1, p.is) })

parts_at : (m key i : ℕ) (front : List ℕ) → key < 5 ^ m → Parts m key i front → (s : ℕ) × At m key i s
unfolding low_digits
parts_at m key i [] h p =
    let e : i ≡ m = omega arith in
    let z : key ≡ 0 = digits-one 4 m key 0 h (pow-least 4 m) (p.is ∙ rw e (sym (digits-zero 4 m))) in
    (0, rw (z, e) whole)
parts_at zero key i (c ∷ front) h p = absurd (omega arith)
parts_at (suc k) key i (c ∷ front) h p =
    let first : key / 5 ^ k % 5 ≡ c = cc p.is in
    let others : low_digits 5 k key ≡ front ++ replicate i 0 = cc p.is in
    let some : 1 ≤ key / 5 ^ k = omega (arith, p.nonzero c (Memᴰ.head refl)) in
    let low : low_digits 5 k (key % 5 ^ k) ≡ front ++ replicate i 0 = sym (digits_low 4 k key) ∙ others in
    let rest : Parts k (key % 5 ^ k) i front = record { long = omega arith; nonzero = λ c l. p.nonzero c (Memᴰ.tail l); is = low } in
    let (s, a) = parts_at k (key % 5 ^ k) i front (mod-lt key (pow-least 4 k)) rest in
    let least : 5 ^ k ≤ key = omega (arith, (le-div_iff_mul-le (pow-least 4 k)).0 some) in
    (_, quad (key / 5 ^ k - 1) (omega (arith, first-most k key h)) a (first-split k key least) refl)

-- ---- blocks by their levels

at : {m d key : ℕ} (b : LevelBlock m d key) → At m key (m - d) b.start
at {m} {key = key} b = form-at m key b.names.is

-- a number is the key of a block of level d exactly when it has m digits in base 5, d digits from 1 to 4 and then m - d zeros
pub key-digits : (m d key : ℕ) → LevelBlock m d key ↔ LevelDigits m d key
key-digits m d key = (to, from)
  where
    to : LevelBlock m d key → LevelDigits m d key
    to b =
        let (front, p) = at-parts (at b) in
        record {
          small = b.small;
          below = omega (arith, (lies (at b)).keys, pow-least 4 (m - d));
          front = front;
          long = omega arith;
          nonzero = p.nonzero;
          is = p.is;
        }

    from : LevelDigits m d key → LevelBlock m d key
    from l =
        let p : Parts m key (m - d) l.front = record { long = omega arith; nonzero = l.nonzero; is = l.is } in
        let (s, a) = parts_at m key (m - d) l.front l.below p in
        record { small = l.small; start = s; names = record { is = at-form a } }

-- a key has one level
pub one-level : {m d e key : ℕ} → LevelBlock m d key → LevelBlock m e key → d ≡ e
one-level {m} {d} {e} x y =
    let same : m - d ≡ m - e = same-exponent (sym x.names.is ∙ y.names.is) in
    omega arith

-- the whole picture is key 0
pub whole-key : (m key : ℕ) → LevelBlock m 0 key ↔ (key ≡ 0)
whole-key m key = (to, λ e. record { small = omega arith; start = 0; names = record { is = rw (e, sub-zero) (form-whole m) } })
  where
    to : LevelBlock m 0 key → key ≡ 0
    to b = let k = rw sub-zero at (lies (at b)).keys in omega arith

-- and at m = 0 the only key
pub only-key : {d key : ℕ} → LevelBlock 0 d key → (d ≡ 0) × (key ≡ 0)
only-key {d} b = let k = (lies (at b)).keys in omega (arith, pow-least 4 (0 - d))
