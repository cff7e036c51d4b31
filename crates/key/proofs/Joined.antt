-- A number cut anywhere: its form is that of its low digits and that of the digits above them, joined. So a key can be read from the small end, as many digits at a time as one likes.
-- Assumes nothing.
use mathlib.Core.Path.{◌≡◌, refl, sym, ap, ◌∙◌}
use mathlib.Core.Bool.{Bool, true, false, cond, ◌||◌, or-true}
use Prim.Native.Nat.{ℕ, zero, suc, ◌+◌, ◌-◌, ◌*◌, ◌/◌, ◌%◌, ◌^◌, ◌≤◌, ◌<◌}
use native.Mathlib.Decide.{dec_lt, ℕ_discrete}
use native.Mathlib.Nat.{le-mul_of_pos_right, add-zero, add-mul, mul_assoc, add_assoc, zero-mul, zero-add, mod-lt, div-add-mod', mul-le-mul_right}
use native.Mathlib.Numerals.{add-one}
use native.Mathlib.Omega.{arith}
use borrow.Author.Tests.{eq-eqb, ne_eqb}
use lib.Arith.{digits_lt, digits_div, digits_mod}
use lib.Dec.{eqb}
use lib.Pow.{pow-add}
use Rattle.std.specs.Prelude.{Option, None, Some}
use Rattle.key.specs.declared.Span.{Span}
use Rattle.key.specs.Form.{form_of, from, span}
use Rattle.key.specs.Promises.{joined, form_up}
use Rattle.key.proofs.Powers.{pow-least}
use Rattle.key.proofs.Digits.{form-whole, form-gap, form-big, form-digit}
use Rattle.key.proofs.Blocks.{lies, form-at}

-- ---- two forms, joined

-- a form with nothing above it
joined-alone : (j : ℕ) (f : Option Span) → joined j f (Some (span 0 0)) ≡ f
unfolding joined
joined-alone j (Some b) = rw (zero-mul, zero-add b.exponent, zero-add b.start)
joined-alone j None = refl

pub joined-none : (j : ℕ) (f : Option Span) → joined j None f ≡ None
unfolding joined
joined-none j f = refl

pub joined-above : (j : ℕ) (f : Option Span) → joined j f None ≡ None
unfolding joined
joined-above j (Some b) = refl
joined-above j None = refl

-- a pixel's key above
pub joined-pixel : (j i s t : ℕ) → joined j (Some (span i s)) (Some (span 0 t)) ≡ Some (span i (t * 4 ^ j + s))
unfolding joined
joined-pixel j i s t = rw zero-add

-- zeros below
joined-zeros : (j h t : ℕ) → joined j (Some (span j 0)) (Some (span h t)) ≡ Some (span (h + j) (t * 4 ^ j))
unfolding joined
joined-zeros j h t = rw (eq-eqb j j refl, or-true, add-zero)

-- a zero above, and a digit below
pub joined-gap : (j i s h t : ℕ) → (i ≡ j → ⊥) → (h ≡ 0 → ⊥) → joined j (Some (span i s)) (Some (span h t)) ≡ None
unfolding joined
joined-gap j i s h t ne some = rw (ne_eqb h 0 some, ne_eqb i j ne)

joined-from : (j p : ℕ) (f g : Option Span) → from (p * 4 ^ j) (joined j f g) ≡ joined j f (from p g)
unfolding joined from
joined-from j p (Some b) (Some above) = go (eqb above.exponent 0 || eqb b.exponent j)
  where
    go : (c : Bool)
        → from (p * 4 ^ j) (cond c (Some (span (above.exponent + b.exponent) (above.start * 4 ^ j + b.start))) None)
        ≡ cond c (Some (span (above.exponent + b.exponent) ((p + above.start) * 4 ^ j + b.start))) None
    go true = rw (add-mul p above.start (4 ^ j), add_assoc)
    go false = refl
joined-from j p (Some b) None = refl
joined-from j p None g = refl

-- ---- the form of a number, by its two parts

-- only 0 is the whole picture's key
not-whole : (j x : ℕ) {i s : ℕ} → (x ≡ 0 → ⊥) → form_of j x ≡ Some (span i s) → i ≡ j → ⊥
not-whole j x {i} ne e d = let l = rw d at (lies (form-at j x e)) in ne (omega (arith, l.keys))

module _ (j low : ℕ) (small : low < 5 ^ j) where
  scale : (k m : ℕ) → m ≡ k + j → 5 ^ m ≡ 5 ^ k * 5 ^ j
  scale k m e = ap (λ (x : ℕ). 5 ^ x) e ∙ pow-add 5 k j

  pub few : (k m high : ℕ) → m ≡ k + j → high < 5 ^ k → high * 5 ^ j + low < 5 ^ m
  few k m high e h = rw (scale k m e) (digits_lt h small)

  pub many : (k m high : ℕ) → m ≡ k + j → 5 ^ k ≤ high → 5 ^ m ≤ high * 5 ^ j + low
  many k m high e h = rw (scale k m e) (omega (arith, mul-le-mul_right {m = 5 ^ k} {n = high} (5 ^ j) h))

  -- k of the digits above them, taken with the low ones
  pub cut_again : (k m high : ℕ) → m ≡ k + j → high * 5 ^ j + low ≡ high / 5 ^ k * 5 ^ m + (high % 5 ^ k * 5 ^ j + low)
  cut_again k m high e =
      let q : ℕ = high / 5 ^ k in
      let r : ℕ = high % 5 ^ k in
      let whole : (q * 5 ^ k + r) * 5 ^ j ≡ high * 5 ^ j = ap (λ (x : ℕ). x * 5 ^ j) (div-add-mod' high (5 ^ k)) in
      omega (arith, whole, add-mul (q * 5 ^ k) r (5 ^ j), mul_assoc q (5 ^ k) (5 ^ j), ap (λ (x : ℕ). q * x) (scale k m e))

  -- above the low digits nothing is a key
  none_above : (k high : ℕ) → form_of k high ≡ None → joined j (form_of j low) (form_of k high) ≡ None
  none_above k high e = ap (joined j (form_of j low)) e ∙ joined-above j (form_of j low)

  -- there are only zeros, and at least one
  zeros-above : (k m : ℕ) → m ≡ k + j → form_of (suc m) low ≡ joined j (form_of j low) (Some (span (suc k) 0))
  zeros-above k m e =
      elim (ℕ_discrete low 0) [
        | yes z ↦ let same : suc m ≡ suc k + j = omega arith in rw (z, form-whole (suc m), form-whole j, joined-zeros, zero-mul, same) refl
        | no n ↦ form-gap m low n (omega (arith, few k m 0 e (pow-least 4 k), zero-mul (5 ^ j))) ∙ sym (go (form_of j low) refl n)
      ]
    where
      go : (f : Option Span) → form_of j low ≡ f → (low ≡ 0 → ⊥) → joined j f (Some (span (suc k) 0)) ≡ None
      go (Some b) e n = joined-gap j b.exponent b.start (suc k) 0 (not-whole j low n e) (λ z. omega arith)
      go None e n = joined-none j (Some (span (suc k) 0))

  -- the first of k + 1 digits above them
  digit-above : (k m high : ℕ) → m ≡ k + j → 5 ^ k ≤ high → high < 5 ^ suc k
      → form_of m (high % 5 ^ k * 5 ^ j + low) ≡ joined j (form_of j low) (form_of k (high % 5 ^ k))
      → form_of (suc m) (high * 5 ^ j + low) ≡ joined j (form_of j low) (form_of (suc k) high)
  digit-above k m high e l h ih =
      let q : ℕ = high / 5 ^ k in
      let r : ℕ = high % 5 ^ k in
      let key : ℕ = high * 5 ^ j + low in
      let less : r * 5 ^ j + low < 5 ^ m = few k m r e (mod-lt high (pow-least 4 k)) in
      let parts = cut_again k m high e in
      let first : key / 5 ^ m ≡ q = ap (λ (x : ℕ). x / 5 ^ m) parts ∙ digits_div q less in
      let others : key % 5 ^ m ≡ r * 5 ^ j + low = ap (λ (x : ℕ). x % 5 ^ m) parts ∙ digits_mod q less in
      let size : (q - 1) * 4 ^ m ≡ (q - 1) * 4 ^ k * 4 ^ j = ap (λ (x : ℕ). (q - 1) * 4 ^ x) e ∙ ap (λ (x : ℕ). (q - 1) * x) (pow-add 4 k j) ∙ sym (mul_assoc (q - 1) (4 ^ k) (4 ^ j)) in
      form-digit m key (many k m high e l) (few (suc k) (suc m) high (omega arith) h)
      ∙ rw (first, others, ih, size, form-digit k high l h) (joined-from j ((q - 1) * 4 ^ k) (form_of j low) (form_of k r))

  pub form-joined : (k m high : ℕ) → m ≡ k + j → form_of m (high * 5 ^ j + low) ≡ joined j (form_of j low) (form_of k high)
  form-joined zero m high e =
      let same : m ≡ j = omega arith in
      elim (ℕ_discrete high 0) [
        | yes z ↦ rw (z, zero-mul, zero-add, form-whole 0, joined-alone, same) refl
        | no n ↦ form-big m (high * 5 ^ j + low) (many 0 m high e (omega arith)) ∙ sym (none_above 0 high (form-big 0 high (omega arith)))
      ]
  form-joined (suc k) zero high e = absurd (omega arith)
  form-joined (suc k) (suc m) high e =
      let less : m ≡ k + j = omega arith in
      elim (ℕ_discrete high 0) [
        | yes z ↦ rw (z, zero-mul, zero-add, form-whole (suc k)) (zeros-above k m less)
        | no n ↦
            elim (dec_lt high (5 ^ k)) [
              | yes l ↦
                  form-gap m (high * 5 ^ j + low) (λ z. n (omega (arith, le-mul_of_pos_right high (pow-least 4 j)))) (few k m high less l)
                  ∙ sym (none_above (suc k) high (form-gap k high n l))
              | no l ↦
                  elim (dec_lt high (5 ^ suc k)) [
                    | yes h ↦ digit-above k m high less (omega arith) h (form-joined k m (high % 5 ^ k) less)
                    | no h ↦
                        form-big (suc m) (high * 5 ^ j + low) (many (suc k) (suc m) high e (omega arith))
                        ∙ sym (none_above (suc k) high (form-big (suc k) high (omega arith)))
                  ]
            ]
      ]

-- for every number, cut behind any digit
pub form-cut : (k j key : ℕ) → form_of (k + j) key ≡ joined j (form_of j (key % 5 ^ j)) (form_of k (key / 5 ^ j))
form-cut k j key = ap (form_of (k + j)) (sym (div-add-mod' key (5 ^ j))) ∙ form-joined j (key % 5 ^ j) (mod-lt key (pow-least 4 j)) k (k + j) (key / 5 ^ j) refl

-- read from the small end, it has the same form
pub form-up : (m key : ℕ) → form_up m key ≡ form_of m key
unfolding form_up
form-up zero key = refl
form-up (suc k) key = ap (joined 1 (form_of 1 (key % 5))) (form-up k (key / 5)) ∙ sym (form-cut k 1 key) ∙ ap (λ (m : ℕ). form_of m key) (add-one k)
