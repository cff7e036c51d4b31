-- Where a block may start, and where it ends: there the keys begin of the largest block that starts there. A block as a picture of its own.
-- Assumes nothing.
use mathlib.Core.Path.{◌≡◌, refl, sym, ap, ◌∙◌, subst}
use mathlib.Core.Logic.{◌⊎◌, inl, inr, ⊎_elim}
use Prim.Native.Nat.{ℕ, suc, ◌+◌, ◌-◌, ◌*◌, ◌/◌, ◌%◌, ◌^◌, ◌≤◌, ◌<◌}
use native.Mathlib.Decide.{dec_lt}
use native.Mathlib.Nat.{pow-suc, zero-mod, suc-mul, add-mul, mul_assoc, sub-add_cancel, mul-le-mul_right, div-add-mod', eq-or-lt_of_le}
use native.Mathlib.Omega.{arith}
use lib.Arith.{digits_mod}
use lib.Pow.{pow-add}
use Rattle.key.specs.Key.{ones}
use Rattle.key.specs.Blocks.{Names}
use Rattle.key.proofs.Standing.{Covers}
use Rattle.key.proofs.Powers.{pow-least}
use Rattle.key.proofs.Blocks.{At, whole, quad, lies, at-form, form-at, next_le, tri}
use Rattle.key.proofs.Pixels.{place-onto, block_at}
use Rattle.key.proofs.Corners.{first-at}

-- ---- where a block may start

pub at_aligned : {m key i s : ℕ} → At m key i s → s % 4 ^ i ≡ 0
at_aligned {m} whole = zero-mod (4 ^ m)
at_aligned (quad {m = m} {i = i} {s = s} {s' = s'} d h a ek es) =
    let p : ℕ = 4 ^ i in
    let n : ℕ = d * 4 ^ (m - i) + s / p in
    let w : 4 ^ m ≡ 4 ^ (m - i) * p = ap (λ (k : ℕ). 4 ^ k) (sym (sub-add_cancel (lies a).small)) ∙ pow-add 4 (m - i) i in
    let e : s' ≡ n * p + 0 =
    omega (arith, es, div-add-mod' s p, at_aligned a, add-mul (d * 4 ^ (m - i)) (s / p) p, mul_assoc d (4 ^ (m - i)) p, ap (λ (x : ℕ). d * x) w) in
    ap (λ (x : ℕ). x % p) e ∙ digits_mod n (pow-least 3 i)

pub start-at : (m i s : ℕ) → i ≤ m → s < 4 ^ m → s % 4 ^ i ≡ 0 → (key : ℕ) × At m key i s
start-at m i s l h z =
    let P = place-onto m s h in
    let e : s / 4 ^ i * 4 ^ i ≡ s = omega (arith, div-add-mod' s (4 ^ i)) in
    (_, rw e at (rw P.is at (block_at m i P.row P.col l P.pixel)))

-- ---- where a block ends

-- the keys of the last block end with the picture's
last-at : {m key i s : ℕ} → At m key i s → s + 4 ^ i ≡ 4 ^ m → key + 5 ^ i ≡ 5 ^ m
last-at whole e = omega arith
last-at (quad {m = m} {key = key} {i = i} {s = s} d h a ek es) e =
    let l = lies a in
    let most : d * 4 ^ m ≤ 3 * 4 ^ m = mul-le-mul_right {m = d} {n = 3} (4 ^ m) (omega arith) in
    let end : s + 4 ^ i ≡ 4 ^ m = omega (arith, pow-suc 4 m) in
    let three : d ≡ 3 = elim (dec_lt d 3) [ yes k ↦ absurd (omega (arith, next_le d 3 (4 ^ m) k, pow-suc 4 m, pow-least 3 m)) | no k ↦ omega arith ] in
    omega (arith, last-at a end, pow-suc 5 m, ap (λ (x : ℕ). x * 5 ^ m) three)

-- a block that starts behind place 0 is not the whole picture
some-quad : {m key i s : ℕ} → At m key i s → 1 ≤ s → i < m
some-quad whole h = absurd (omega arith)
some-quad (quad d h a ek es) l = omega (arith, (lies a).small)

-- in which quadrant it lies, and where there
into : {n key i q : ℕ} (m d e : ℕ) → At n key i q → 1 ≤ q → n ≡ suc m → q ≡ d * 4 ^ m + e → e < 4 ^ m → (key' : ℕ) × At m key' i e
into m d e whole h en eq l = absurd (omega arith)
into m d e (quad {m = n} {key = key} {i = i} {s = s} c g a ek es) h en eq l =
    let em : n ≡ m = omega arith in
    let a' : At m key i s = subst (λ (x : ℕ). At x key i s) em a in
    let small : s < 4 ^ m = omega (arith, (lies a').span, pow-least 3 i) in
    let t : c * 4 ^ m + s ≡ d * 4 ^ m + e = ap (λ (x : ℕ). c * 4 ^ x + s) (sym em) ∙ sym es ∙ eq in
    let es' : s ≡ e = sym (digits_mod c small) ∙ ap (λ (x : ℕ). x % 4 ^ m) t ∙ digits_mod d l in
    (key, subst (λ (x : ℕ). At m key i x) es' a')

-- the largest block that starts at q has this key
pub record Top (m key q : ℕ) : Type 0 where
  pub top : ℕ
  pub at : At m key top q
  pub most : {k key' : ℕ} → At m key' k q → k ≤ top

-- where the keys of a block end, those of the largest block begin that starts where it ends
pub end-at : {m key i s : ℕ} → At m key i s → s + 4 ^ i < 4 ^ m → Top m (key + 5 ^ i) (s + 4 ^ i)
end-at whole l = absurd (omega arith)
end-at (quad {m = m} {key = key} {i = i} {s = s} {key' = key'} {s' = s'} d h a ek es) l = go (λ g. end-at a g) (eq-or-lt_of_le (lies a).span)
  where
    some : 1 ≤ s' + 4 ^ i
    some = omega (arith, pow-least 3 i)

    go : (s + 4 ^ i < 4 ^ m → Top m (key + 5 ^ i) (s + 4 ^ i)) → (s + 4 ^ i ≡ 4 ^ m) ⊎ (s + 4 ^ i < 4 ^ m) → Top (suc m) (key' + 5 ^ i) (s' + 4 ^ i)
    go ih (inl e) =
        let k = last-at a e in
        let less : d < 3 = elim (dec_lt d 3) [ yes g ↦ g | no g ↦ absurd (omega (arith, mul-le-mul_right {m = 3} {n = d} (4 ^ m) (omega arith), pow-suc 4 m)) ] in
        record {
          top = m;
          at = quad {key' = key' + 5 ^ i} {s' = s' + 4 ^ i} (suc d) (omega arith) (whole {m = m}) (omega (arith, suc-mul d (5 ^ m))) (omega (arith, suc-mul d (4 ^ m)));
          most = λ b. let n = some-quad b some in omega arith;
        }
    go ih (inr g) =
        let t = ih g in
        record {
          top = t.top;
          at = quad {key' = key' + 5 ^ i} {s' = s' + 4 ^ i} d h t.at (omega arith) (omega arith);
          most = λ b. t.most (into m d (s + 4 ^ i) b some refl (omega arith) g).1;
        }

-- ---- the same of keys that name blocks

-- a block of exponent i starts at place s
pub record Starts (m i s : ℕ) : Type 0 where
  pub key : ℕ
  pub names : Names m key i s

-- the first pixel of a block
pub first-pixel : {m key i s : ℕ} → Names m key i s → Names m (key + ones i) 0 s
first-pixel {m} {key} n = record { is = at-form (first-at (form-at m key n.is)) }

pub aligned-start : {m key i s : ℕ} → Names m key i s → s % 4 ^ i ≡ 0
aligned-start {m} {key} n = at_aligned (form-at m key n.is)

pub block-starting : (m i s : ℕ) → i ≤ m → s < 4 ^ m → s % 4 ^ i ≡ 0 → Starts m i s
block-starting m i s l h z = let a = start-at m i s l h z in record { key = a.0; names = record { is = at-form a.1 } }

-- where the keys of a block end, those of a block begin that starts where it ends, and no larger one starts there
pub end-key : {m key i s : ℕ} → Names m key i s → s + 4 ^ i < 4 ^ m → (j : ℕ) × Names m (key + 5 ^ i) j (s + 4 ^ i) × ((k : ℕ) → Starts m k (s + 4 ^ i) → k ≤ j)
end-key {m} {key} n h =
    let t = end-at (form-at m key n.is) h in
    (t.top, record { is = at-form t.at }, λ k b. t.most (form-at m b.key b.names.is))

-- ---- a block is a picture of its own: what lies in it has there the key and the place that are left of its own

record Rest (I K S key i s : ℕ) : Type 0 where
  key' : ℕ
  s' : ℕ
  at : At I key' i s'
  ek : key ≡ K + key'
  es : s ≡ S + s'

rest_at : {m K I S key i s : ℕ} → At m K I S → At m key i s → S ≤ s → s + 4 ^ i ≤ S + 4 ^ I → Rest I K S key i s
rest_at {key = key} {s = s} whole b l k = record { key' = key; s' = s; at = b; ek = omega arith; es = omega arith }
rest_at (quad {m = m} d h a ek es) whole l k = absurd (omega (arith, (lies a).span, pow-suc 4 m, pow-least 3 m))
rest_at (quad {m = m} {i = I} d h a ek es) (quad {i = i} e g b el et) l k =
    ⊎_elim (λ lt. absurd (omega (arith, (lies a).span, next_le d e (4 ^ m) lt, pow-least 3 i)))
    (⊎_elim (λ eq.
    let dp : d * 4 ^ m ≡ e * 4 ^ m = ap (λ (x : ℕ). x * 4 ^ m) eq in
    let dk : d * 5 ^ m ≡ e * 5 ^ m = ap (λ (x : ℕ). x * 5 ^ m) eq in
    let r = rest_at a b (omega arith) (omega arith) in
    record { key' = r.key'; s' = r.s'; at = r.at; ek = omega (arith, r.ek); es = omega (arith, r.es) })
    (λ gt. absurd (omega (arith, (lies b).span, next_le e d (4 ^ m) gt, pow-least 3 i))))
    (tri d e)

pub sub-key : {m K I S key i s : ℕ} → Names m K I S → Names m key i s → Covers S (4 ^ I) s (4 ^ i) → Names I (key - K) i (s - S)
sub-key {m} {K} {I} {S} {key} {i} {s} A b h =
    let r = rest_at (form-at m K A.is) (form-at m key b.is) h.least h.most in
    let ek : key - K ≡ r.key' = omega (arith, r.ek) in
    let es : s - S ≡ r.s' = omega (arith, r.es) in
    rw (ek, es) (record { is = at-form r.at })
