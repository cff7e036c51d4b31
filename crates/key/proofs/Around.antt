-- A key ends in as many zeros as its block's exponent says, and its first digit is not 0. So of two keys the digits that the one has over the other tell whether its block lies in
-- the other's, and how large that is: the loop of `reach_over`.
-- Assumes nothing.
use mathlib.Core.Path.{◌≡◌, sym, ap, ◌∙◌}
use mathlib.Core.Logic.{◌⊎◌, inl, inr, ◌↔◌}
use Prim.Native.Nat.{ℕ, suc, ◌+◌, ◌-◌, ◌*◌, ◌%◌, ◌^◌, ◌≤◌, ◌<◌}
use native.Mathlib.Decide.{dec_lt}
use native.Mathlib.Nat.{pow-suc, zero-mod, add-mul, mul_assoc, mul-add-mod_self_right, mod-eq_of_lt, sub-add_cancel, pow-le-pow_right, zero-lt-suc, eq-or-lt_of_le}
use native.Mathlib.Numerals.{add-one}
use native.Mathlib.Omega.{arith}
use lib.Pow.{pow-add}
use Rattle.key.specs.Blocks.{Names, Among, BelowBlock, Reaches, contains, ends}
use Rattle.key.proofs.Standing.{Lies, Stand, within, around, after, before}
use Rattle.key.proofs.Powers.{pow-least}
use Rattle.key.proofs.Blocks.{At, whole, quad, lies, form-at, stand}
use Rattle.key.proofs.Ends.{sub-key}
use Rattle.key.proofs.Spans.{same-exponent}

-- ---- the digits of a key

zeros-at : {m k i s : ℕ} → At m k i s → (e : ℕ) → e ≤ m → (k % 5 ^ e ≡ 0) ↔ (e ≤ i)
zeros-at whole e l = (λ z. l, λ h. zero-mod (5 ^ e))
zeros-at (quad {m = m} {key = key} {i = i} {key' = key'} d h a ek es) e l = go (zeros-at a e) (eq-or-lt_of_le l)
  where
    go : (e ≤ m → (key % 5 ^ e ≡ 0) ↔ (e ≤ i)) → (e ≡ suc m) ⊎ (e < suc m) → (key' % 5 ^ e ≡ 0) ↔ (e ≤ i)
    go ih (inl eq) =
        let small : key' < 5 ^ e = rw eq (omega (arith, (lies (quad d h a ek es)).keys, pow-least 4 i)) in
        (λ z. absurd (omega (arith, mod-eq_of_lt small, pow-least 4 m)), λ k. absurd (omega (arith, (lies a).small)))
    go ih (inr lt) =
        let q : ℕ = 5 ^ (m - e) in
        let w : 5 ^ m ≡ q * 5 ^ e = ap (λ (x : ℕ). 5 ^ x) (sym (sub-add_cancel {n = m} {m = e} (omega arith))) ∙ pow-add 5 (m - e) e in
        let split : key' ≡ (q + d * q) * 5 ^ e + key = omega (arith, ek, w, add-mul q (d * q) (5 ^ e), mul_assoc d q (5 ^ e), ap (λ (x : ℕ). d * x) w) in
        let same : key' % 5 ^ e ≡ key % 5 ^ e = ap (λ (x : ℕ). x % 5 ^ e) split ∙ mul-add-mod_self_right (q + d * q) (5 ^ e) key in
        let rest = ih (omega arith) in
        (λ z. rest.0 (sym same ∙ z), λ k. same ∙ rest.1 k)

least_at : {m k i s : ℕ} → At m k i s → i < m → 5 ^ (m - 1) ≤ k
least_at whole l = absurd (omega arith)
least_at (quad {m = m} d h a ek es) l = let e : suc m - 1 ≡ m = omega arith in rw e (omega arith)

-- a key ends in as many zeros as its exponent says
pub key-zeros : {m k i s : ℕ} → Names m k i s → (e : ℕ) → e ≤ m → (k % 5 ^ e ≡ 0) ↔ (e ≤ i)
key-zeros {m} {k} n = zeros-at (form-at m k n.is)

-- and its first digit is not 0
pub key-least : {m k i s : ℕ} → Names m k i s → i < m → 5 ^ (m - 1) ≤ k
key-least {m} {k} n = least_at (form-at m k n.is)

-- powers are in the order of their exponents
pub fives : (a b : ℕ) → 5 ^ a < 5 ^ b → a < b
fives a b h = elim (dec_lt a b) [ yes l ↦ l | no n ↦ absurd (omega (arith, pow-le-pow_right {n = 5} (zero-lt-suc 4) {i = b} {j = a} (omega arith))) ]

-- ---- the loop: p is 5 ^ e, and e is no more than the first exponent from i on whose power is over what the one key has over the other

pub record Grown (i over p e : ℕ) : Type 0 where
  pub power : p ≡ 5 ^ e
  pub least : (k : ℕ) → i ≤ k → over < 5 ^ k → e ≤ k

pub grown-first : {i over p : ℕ} → p ≡ 5 ^ i → Grown i over p i
grown-first e = record { power = e; least = λ k l h. l }

pub grown-next : {i over p e : ℕ} → Grown i over p e → p ≤ over → Grown i over (5 * p) (e + 1)
grown-next {e = e} g l = record { power = rw (add-one e) (omega (arith, g.power, pow-suc 5 e)); least = λ k h o. omega (arith, fives e k (omega (arith, g.power))) }

module _ {m own key i : ℕ} (B : BelowBlock m own key i) where
  pub below-room : Lies m key i B.start
  below-room = lies (form-at m key B.names.is)

  -- what the one key has over the other has no more digits than the picture's keys
  pub grown-most : {p e : ℕ} → Grown i (key - own) p e → e ≤ m
  grown-most g = g.least m below-room.small (omega (arith, below-room.keys, pow-least 4 i))

  abbrev j : ℕ
  j = B.exponent

  -- the block lies in the other, or behind it
  data Side : Type 0 where
    inside : i < j → Among own (5 ^ j) key → Names j (key - own) i (B.start - B.first) → Side
    behind : own + 5 ^ j ≤ key → Side

  side : Side
  side = go (stand (form-at m own B.owns.is) (form-at m key B.names.is))
    where
      go : Stand own j B.first key i B.start → Side
      go (within x y) = inside (fives i j (omega (arith, B.less))) (omega (arith, pow-least 4 i)) (sub-key B.owns B.names x)
      go (around l x k y) = absurd (omega (arith, B.less))
      go (after x y) = behind y
      go (before x y) = absurd (omega (arith, B.less))

  -- of the other, if it contains the block: what the key has over its own has as many digits as its exponent says
  exact : {p e : ℕ} → i < j → Among own (5 ^ j) key → Names j (key - own) i (B.start - B.first) → Grown i (key - own) p e → key - own < p → e ≡ j
  exact {e = e} l a n g h =
      let up : e ≤ j = g.least j (omega arith) (omega arith) in
      let down : j - 1 < e = fives (j - 1) e (omega (arith, key-least n l, g.power)) in
      omega arith

  module _ {p e : ℕ} (g : Grown i (key - own) p e) (h : key - own < p) where
    pub reached : own % p ≡ 0 → Reaches m own key i e
    reached z = go side
      where
        go : Side → Reaches m own key i e
        go (inside l a n) = rw (exact l a n g h) (contains l B.owns a)
        go (behind k) =
            let less : e ≤ j = (key-zeros B.owns e (grown-most g)).0 (rw g.power at z) in
            absurd (omega (arith, g.power, pow-le-pow_right {n = 5} (zero-lt-suc 4) less))

    pub unreached : (own % p ≡ 0 → ⊥) → Reaches m own key i i
    unreached ne = go side
      where
        go : Side → Reaches m own key i i
        go (inside l a n) = absurd (ne (rw g.power ((key-zeros B.owns e (grown-most g)).1 (omega (arith, exact l a n g h)))))
        go (behind k) = ends B.owns k

  -- key 0 is the whole picture's
  pub reached-all : own ≡ 0 → Reaches m own key i m
  reached-all e =
      let all : m ≤ B.exponent = (key-zeros B.owns m (omega arith)).0 (rw e (zero-mod (5 ^ m))) in
      let same : B.exponent ≡ m = omega (arith, (lies (form-at m own B.owns.is)).small) in
      let most : Among own (5 ^ m) key = omega (arith, B.less, below-room.keys, pow-least 4 i) in
      contains (fives i m (omega (arith, B.less, below-room.keys))) (rw same at B.owns) most

-- ---- what the answer tells

pub reaches-least : {m own key i r : ℕ} → Reaches m own key i r → i ≤ r
reaches-least (contains l n a) = omega arith
reaches-least (ends n h) = omega arith

-- the block of the smaller key ends before
pub reaches-before : {m own key i r j t : ℕ} → Reaches m own key i r → r ≡ i → Names m own j t → own + 5 ^ j ≤ key
reaches-before (contains l n a) e o = absurd (omega arith)
reaches-before {j = j} (ends {j = k} n h) e o = let same : k ≡ j = same-exponent (sym n.is ∙ o.is) in rw same at h

-- it contains the other, and this is its exponent
pub reaches-around : {m own key i r : ℕ} → Reaches m own key i r → i < r → (t : ℕ) × Names m own r t × Among own (5 ^ r) key
reaches-around (contains {t = t} l n a) h = (t, n, a)
reaches-around (ends n k) h = absurd (omega arith)
