-- Reading a key from the small end, when the zeros that it ends in are off: by ones or by twos, its digits are the key of a block of a picture of their own.
-- Assumes nothing.
use mathlib.Core.Path.{◌≡◌, refl, sym, ap, ◌∙◌}
use mathlib.Core.Bool.{cond}
use mathlib.Core.List.{List, [], ◌∷◌}
use Prim.Native.Nat.{ℕ, suc, ◌+◌, ◌-◌, ◌*◌, ◌/◌, ◌%◌, ◌^◌, ◌≤◌, ◌<◌}
use native.Mathlib.Decide.{dec_lt, ℕ_discrete}
use native.Mathlib.Nat.{mod-lt, pow-le-pow_right, zero-lt-suc}
use native.Mathlib.Omega.{arith}
use borrow.Author.Tests.{eq-eqb, ne_eqb}
use lib.Dec.{eqb}
use lib.ListN.{get_or}
use Rattle.std.specs.Prelude.{Option, None, Some}
use Rattle.lists.proofs.Laws.{table-written, table-entry}
use Rattle.key.specs.declared.Span.{Span}
use Rattle.key.specs.Form.{form_of, from, span}
use Rattle.key.specs.Promises.{joined}
use Rattle.key.specs.Reading.{Strips, place_or16, pairs_table}
use Rattle.key.proofs.Powers.{pow-least, pow-most}
use Rattle.key.proofs.Digits.{form-whole, form-gap, form-big}
use Rattle.key.proofs.Blocks.{whole, quad, lies, at-form, form-at}
use Rattle.key.proofs.Joined.{form-joined, few, many, cut_again, joined-pixel, joined-gap, joined-none, joined-above}
use Rattle.key.proofs.Around.{key-zeros, fives}
use Rattle.key.proofs.Strips.{strips-some}

-- ---- a number cut: its n low digits have the form f, and the number `high` stands above them

record Cut (key n high : ℕ) (f : Option Span) : Type 0 where
  low : ℕ
  small : low < 5 ^ n
  split : key ≡ high * 5 ^ n + low
  is : form_of n low ≡ f

module _ {key n high : ℕ} {f : Option Span} (c : Cut key n high f) where
  cut-form : {m : ℕ} (k : ℕ) → m ≡ k + n → form_of m key ≡ joined n f (form_of k high)
  cut-form {m} k e = ap (form_of m) c.split ∙ form-joined n c.low c.small k m high e ∙ ap (λ (g : Option Span). joined n g (form_of k high)) c.is

  -- how many digits the number has, by what stands above
  cut-many : (d : ℕ) → 5 ^ d ≤ high → 5 ^ (n + d) ≤ key
  cut-many d l = omega (arith, c.split, many n c.low c.small d (n + d) high (omega arith) l)

  cut-few : (d : ℕ) → high < 5 ^ d → key < 5 ^ (n + d)
  cut-few d h = omega (arith, c.split, few n c.low c.small d (n + d) high (omega arith) h)

  -- d digits more are low
  cut-more : (m d : ℕ) {g : Option Span} → m ≡ d + n → joined n f (form_of d (high % 5 ^ d)) ≡ g → Cut key m (high / 5 ^ d) g
  cut-more m d {g} e is =
      let r : ℕ = high % 5 ^ d in
      record {
        low = r * 5 ^ n + c.low;
        small = few n c.low c.small d m r e (mod-lt high (pow-least 4 d));
        split = c.split ∙ cut_again n c.low c.small d m high e;
        is = form-joined n c.low c.small d m r e ∙ ap (λ (h : Option Span). joined n h (form_of d r)) c.is ∙ is;
      }

-- a number of more than n digits, of which n + 1 low ones are malformed
cut-none : {key n high : ℕ} (m : ℕ) → Cut key (suc n) high None → 5 ^ n ≤ key → form_of m key ≡ None
cut-none {key} {n} {high} m c l =
    elim (dec_lt n m) [
      | yes h ↦ cut-form c (m - suc n) (omega arith) ∙ joined-none (suc n) (form_of (m - suc n) high)
      | no h ↦ form-big m key (omega (arith, pow-le-pow_right {n = 5} (zero-lt-suc 4) {i = m} {j = n} (omega arith)))
    ]

-- ---- digits: k of them are read, the zeros among them, as the key of a block of a picture of their own, and `rest` stands above them

pub record Reading (key zeros k rest start : ℕ) : Type 0 where
  cut : Cut key k rest (Some (span zeros start))
  pub some : 1 ≤ rest
  -- the digit above the zeros is not 0
  first : zeros ≡ k → rest % 5 ≡ 0 → ⊥

pub reading-first : {key zeros rest : ℕ} → Strips 1 key zeros rest → Reading key zeros zeros rest 0
reading-first {key} {zeros} {rest} s =
    record {
      cut = record { low = 0; small = pow-least 4 zeros; split = omega (arith, s.is); is = form-whole zeros };
      some = strips-some s;
      first = λ e z. s.fewer z;
    }

-- the places of a key's block fit
fits : {i s : ℕ} (m key : ℕ) → m ≤ 12 → form_of m key ≡ Some (span i s) → s < 4 ^ 12
fits {i} m key h e = omega (arith, (lies (form-at m key e)).span, pow-least 3 i, pow-most 3 m h)

-- ---- digits by twos

pub pairs-listed : pairs_table
    ≡ 16 ∷ 16 ∷ 16 ∷ 16 ∷ 16 ∷ 16 ∷ 0 ∷ 1 ∷ 2 ∷ 3 ∷ 16 ∷ 4 ∷ 5 ∷ 6 ∷ 7 ∷ 16 ∷ 8 ∷ 9 ∷ 10 ∷ 11 ∷ 16 ∷ 12 ∷ 13 ∷ 14 ∷ 15 ∷ []
unfolding pairs_table place_or16 form_of from
pairs-listed = sym (table-written (λ (x : ℕ). place_or16 (form_of 2 x)) 0 25)

pub pairs-entry : {table : List ℕ} (x : ℕ) → table ≡ pairs_table → x < 25 → get_or table x 0 ≡ place_or16 (form_of 2 x)
unfolding pairs_table
pairs-entry x e h = table-entry (λ (y : ℕ). place_or16 (form_of 2 y)) 25 x e h

pub place-most : (x : ℕ) → place_or16 (form_of 2 x) ≤ 16
unfolding place_or16
place-most x = go (form_of 2 x) refl
  where
    go : (f : Option Span) → form_of 2 x ≡ f → place_or16 f ≤ 16
    go (Some b) e =
        elim (ℕ_discrete b.exponent 0) [
          | yes z ↦ rw (eq-eqb b.exponent 0 z) (omega (arith, (lies (form-at 2 x e)).span))
          | no n ↦ rw (ne_eqb b.exponent 0 n) (omega arith)
        ]
    go None e = omega arith

pub pixel-told : (x : ℕ) {p : ℕ} → p ≡ place_or16 (form_of 2 x) → (p ≡ 16 → ⊥) → form_of 2 x ≡ Some (span 0 p)
unfolding place_or16
pixel-told x {p} e ne = go (form_of 2 x) e
  where
    go : (f : Option Span) → p ≡ place_or16 f → f ≡ Some (span 0 p)
    go (Some b) e =
        elim (ℕ_discrete b.exponent 0) [
          | yes z ↦ let start = rw (eq-eqb b.exponent 0 z) at e in ap (λ (i : ℕ). Some (span i b.start)) z ∙ ap (λ (s : ℕ). Some (span 0 s)) (sym start)
          | no n ↦ absurd (ne (rw (ne_eqb b.exponent 0 n) at e))
        ]
    go None e = absurd (ne e)

-- a digit alone
pub digit-told : {x : ℕ} → 1 ≤ x → x < 5 → form_of 1 x ≡ Some (span 0 (x - 1))
digit-told {x} l h = at-form (quad (x - 1) (omega arith) (whole {m = 0}) (omega arith) (omega arith))

module _ {key zeros k rest start : ℕ} (r : Reading key zeros k rest start) where
  -- k digits are read and more than d are left, so a key has more than k + d; and the places fit
  pub reading-few : (d : ℕ) → 5 ^ d ≤ rest → key < 5 ^ 12 → k + d < 12
  reading-few d l h = fives (k + d) 12 (omega (arith, cut-many r.cut d l))

  pub reading_small : key < 5 ^ 12 → start < 4 ^ 12
  reading_small h = fits k r.cut.low (omega (arith, reading-few 0 r.some h)) r.cut.is

  -- one of the next two digits is 0, and a digit stands above it that is not
  pub reading-gap : (m : ℕ) {x : ℕ} → x ≡ rest % 25 → 5 ≤ rest → place_or16 (form_of 2 x) ≡ 16 → form_of m key ≡ None
  unfolding place_or16
  reading-gap m ex l e =
      cut-none m (cut-more r.cut (suc (k + 1)) 2 (omega arith) (go (form_of 2 (rest % 25)) refl (ap (λ (y : ℕ). place_or16 (form_of 2 y)) (sym ex) ∙ e))) (cut-many r.cut 1 l)
    where
      go : (f : Option Span) → form_of 2 (rest % 25) ≡ f → place_or16 f ≡ 16 → joined k (Some (span zeros start)) f ≡ None
      go (Some b) f e =
          elim (ℕ_discrete b.exponent 0) [
            | yes z ↦ let p : b.start ≡ 16 = rw (eq-eqb b.exponent 0 z) at e in absurd (omega (arith, (lies (form-at 2 (rest % 25) f)).span, pow-least 3 b.exponent))
            | no some ↦
                elim (ℕ_discrete zeros k) [
                  | yes z ↦ absurd (r.first z (omega (arith, (key-zeros {m = 2} {k = rest % 25} (record { is = f }) 1 (omega arith)).1 (omega arith))))
                  | no n ↦ joined-gap k zeros start b.exponent b.start n some
                ]
          ]
      go None f e = joined-above k (Some (span zeros start))

  -- none is
  pub reading-next : {p a : ℕ} → a ≡ 4 ^ k → form_of 2 (rest % 25) ≡ Some (span 0 p) → 25 ≤ rest → Reading key zeros (k + 2) (rest / 25) (p * a + start)
  reading-next {p} ea e h =
      record {
        cut = cut-more r.cut (k + 2) 2 (omega arith) (ap (joined k (Some (span zeros start))) e ∙ joined-pixel k zeros start p ∙ rw ea refl);
        some = omega arith;
        first = λ z. absurd (omega (arith, (lies (form-at k r.cut.low r.cut.is)).small));
      }

  -- the first digits of all
  module _ (d : ℕ) {p a : ℕ} (ea : a ≡ 4 ^ k) (l : 5 ^ d ≤ rest) (h : rest < 5 ^ suc d) (e : form_of (suc d) rest ≡ Some (span 0 p)) where
    reading-whole : form_of (k + suc d) key ≡ Some (span zeros (p * a + start))
    reading-whole = cut-form r.cut (suc d) (omega arith) ∙ ap (joined k (Some (span zeros start))) e ∙ joined-pixel k zeros start p ∙ rw ea refl

    pub reading-room : key < 5 ^ 12 → p * a + start < 4 ^ 12
    reading-room b = fits (k + suc d) key (omega (arith, reading-few d l b)) reading-whole

    pub reading-last : (m : ℕ) → cond (eqb (k + suc d) m) (Some (span zeros (p * a + start))) None ≡ form_of m key
    reading-last m =
        elim (ℕ_discrete (k + suc d) m) [
          | yes z ↦ rw (eq-eqb (k + suc d) m z) (sym reading-whole ∙ ap (λ (x : ℕ). form_of x key) z)
          | no n ↦ rw (ne_eqb (k + suc d) m n) (sym (go (dec_lt m (k + suc d)) n))
        ]
      where
        go : Dec (m < k + suc d) → (k + suc d ≡ m → ⊥) → form_of m key ≡ None
        go (yes b) n = form-big m key (omega (arith, cut-many r.cut d l, pow-le-pow_right {n = 5} (zero-lt-suc 4) {i = m} {j = k + d} (omega arith)))
        go (no b) n =
            let over : m ≡ suc (m - 1) = omega arith in
            let small : key < 5 ^ (m - 1) = omega (arith, cut-few r.cut (suc d) h, pow-le-pow_right {n = 5} (zero-lt-suc 4) {i = k + suc d} {j = m - 1} (omega arith)) in
            ap (λ (x : ℕ). form_of x key) over ∙ form-gap (m - 1) key (λ z. omega (arith, cut-many r.cut d l, pow-least 4 (k + d))) small
