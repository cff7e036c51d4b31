-- How large a block may be by rows or by columns: two numbers lie in one block of side 2 ^ i exactly when they differ in no bit from i on. The exponent of a maximal block is the
-- least of what rows, columns and `top` allow.
-- Assumes nothing.
use mathlib.Core.Path.{◌≡◌, sym, ap, ◌∙◌}
use mathlib.Core.Logic.{◌↔◌}
use Prim.Native.Nat.{ℕ, min, ◌+◌, ◌-◌, ◌*◌, ◌/◌, ◌^◌, ◌≤◌, ◌<◌}
use native.Mathlib.Decide.{dec_lt}
use native.Mathlib.Nat.{add-mul-div_right, add-mul, div-eq_of_lt, div-lt_iff_lt-mul, sub-add_cancel, one-mul}
use native.Mathlib.Omega.{arith}
use lib.Bits.{bit_xor, xor_shr, xor_self, xor_lt, xor_add_and, and_le_l, and_le_r}
use lib.Count.{count_leading_zeros}
use lib.Pow.{pow_pos, pow-add}
use Rattle.key.specs.Picture.{Px}
use Rattle.key.proofs.Laws.{log-of}
use Rattle.window.specs.declared.Window.{Window}
use Rattle.window.specs.Window.{In}
use Rattle.window.specs.Blocks.{floor, exponent}
use Rattle.window.specs.Walk.{Between, Reach}
use Rattle.window.proofs.Fitting.{Fits}
use Rattle.window.proofs.Dyadic.{floor-le, floor-lt, floor-eq, floor-div}
use Rattle.window.proofs.Blocks.{exponent-le, exponent-fits, exponent-max}

-- ---- bits

xor-none : (a b : ℕ) → bit_xor a b ≡ 0 → a ≡ b
xor-none a b e = omega (arith, xor_add_and a b, and_le_l a b, and_le_r a b)

-- two numbers differ in bit i or a higher one exactly when they lie in different blocks of side 2 ^ i
apart : (i a b : ℕ) → (2 ^ i ≤ bit_xor a b) ↔ (floor i a ≡ floor i b → ⊥)
unfolding floor
apart i a b = (to, λ n. from n (dec_lt (bit_xor a b) (2 ^ i)))
  where
    to : 2 ^ i ≤ bit_xor a b → floor i a ≡ floor i b → ⊥
    to l e =
        let q : a / 2 ^ i ≡ b / 2 ^ i = sym (floor-div i a) ∙ ap (λ (x : ℕ). x / 2 ^ i) e ∙ floor-div i b in
        let z : bit_xor a b / 2 ^ i ≡ 0 = xor_shr a b i ∙ ap (λ (x : ℕ). bit_xor x (b / 2 ^ i)) q ∙ xor_self (b / 2 ^ i) in
        let below : bit_xor a b < 1 * 2 ^ i = (div-lt_iff_lt-mul (pow_pos i)).0 (omega arith) in
        omega (arith, one-mul (2 ^ i))

    from : (floor i a ≡ floor i b → ⊥) → Dec (bit_xor a b < 2 ^ i) → 2 ^ i ≤ bit_xor a b
    from n (yes l) = absurd (n (ap (λ (x : ℕ). x * 2 ^ i) (xor-none (a / 2 ^ i) (b / 2 ^ i) (sym (xor_shr a b i) ∙ div-eq_of_lt l))))
    from n (no l) = omega arith

-- of two numbers in order: they lie in different blocks exactly when the first stands before the other's block, and when the other stands behind the first one's
module _ (i u v : ℕ) (h : u < v) where
  apart-before : (floor i u ≡ floor i v → ⊥) ↔ (u < floor i v)
  apart-before = (λ n. go n (dec_lt u (floor i v)), λ l e. omega (arith, floor-le i u))
    where
      go : (floor i u ≡ floor i v → ⊥) → Dec (u < floor i v) → u < floor i v
      go n (yes l) = l
      go n (no l) = absurd (n (floor-eq i v u (omega arith) (omega (arith, floor-lt i v))))

  pub apart-behind : (floor i v ≡ floor i u → ⊥) ↔ (floor i u + 2 ^ i ≤ v)
  apart-behind = (λ n. go n (dec_lt v (floor i u + 2 ^ i)), λ l e. omega (arith, floor-lt i v))
    where
      go : (floor i v ≡ floor i u → ⊥) → Dec (v < floor i u + 2 ^ i) → floor i u + 2 ^ i ≤ v
      go n (yes l) = absurd (n (floor-eq i u v (omega (arith, floor-le i u)) l))
      go n (no l) = omega arith

-- ---- the reach

-- blocks stand 4096 further on as they stand
floor-over : (i x : ℕ) → i ≤ 12 → floor i (x + 4096) ≡ floor i x + 4096
unfolding floor
floor-over i x h =
    let k : ℕ = 2 ^ (12 - i) in
    let e : 4096 ≡ k * 2 ^ i = ap (λ (n : ℕ). 2 ^ n) (sym (sub-add_cancel {n = 12} {m = i} h)) ∙ pow-add 2 (12 - i) i in
    let d : (x + k * 2 ^ i) / 2 ^ i ≡ x / 2 ^ i + k = add-mul-div_right x k (pow_pos i) in
    let f : (x + 4096) / 2 ^ i ≡ x / 2 ^ i + k = ap (λ (n : ℕ). (x + n) / 2 ^ i) e ∙ d in
    ap (λ (n : ℕ). n * 2 ^ i) f ∙ omega (arith, add-mul (x / 2 ^ i) k (2 ^ i))

module _ {a n x : ℕ} (B : Between a n x) where
  pub reach_of : {before behind r : ℕ} → before ≡ bit_xor (a + 4095) (x + 4096) → behind ≡ bit_xor (a + n + 4096) (x + 4096) → r ≡ min before behind → Reach a n x r
  reach_of {before} {behind} {r} ew ee er = record {
    some = (both 0 (omega arith)).1 (omega (arith, floor-le 0 x, floor-lt 0 x));
    most = omega (arith, xor_lt 14 (a + 4095) (x + 4096) (omega arith) (omega arith));
    is = both;
  }
    where
      both : (i : ℕ) → i ≤ 12 → (2 ^ i ≤ r) ↔ ((a ≤ floor i x) × (floor i x + 2 ^ i ≤ a + n))
      both i h =
          let f = floor-over i x h in
          let w = apart i (a + 4095) (x + 4096) in
          let e = apart i (a + n + 4096) (x + 4096) in
          let p = apart-before i (a + 4095) (x + 4096) (omega arith) in
          let q = apart-behind i (x + 4096) (a + n + 4096) (omega arith) in
          (λ l. let s = p.0 (w.0 (omega arith)) in let t = q.0 (e.0 (omega arith)) in omega arith, λ l. let s = w.1 (p.1 (omega arith)) in let t = e.1 (q.1 (omega arith)) in omega arith)

-- ---- the exponent

module _ (W : Window) (top : ℕ) {p : Px} (v : In W p) where
  pub exponent-least : {rows cols i : ℕ} → top ≤ 12 → Reach W.r0 W.h p.0 rows → Reach W.c0 W.w p.1 cols → i ≡ 30 - count_leading_zeros 32 (2 * min rows cols + 1)
      → min top i ≡ exponent W top p
  exponent-least {rows} {cols} {i} h R C e =
      let log = log-of (min rows cols) i (omega (arith, R.some, C.some)) (omega (arith, R.most)) e in
      let n : ℕ = min top i in
      let x : ℕ = exponent W top p in
      let xt : x ≤ top = exponent-le W top p in
      let f : Fits W x p = exponent-fits W top v in
      let up : x ≤ i = (log x).1 (omega (arith, (R.is x (omega arith)).1 (f.top, f.bottom), (C.is x (omega arith)).1 (f.left, f.right))) in
      let g : 2 ^ n ≤ min rows cols = (log n).0 (omega arith) in
      let r = (R.is n (omega arith)).0 (omega arith) in
      let c = (C.is n (omega arith)).0 (omega arith) in
      let down : n ≤ x = exponent-max W top n (omega arith) (record { top = r.0; bottom = r.1; left = c.0; right = c.1 }) in
      omega arith
