-- A block by the digits of its key, from the small end: it ends in as many zeros as its exponent says, and each digit counts for the place at which its span starts.
-- Assumes nothing.
use mathlib.Core.Path.{◌≡◌, refl, sym, ap, ◌∙◌}
use mathlib.Core.Bool.{Bool, true, false, cond, ◌||◌}
use mathlib.Core.List.{List, [], ◌∷◌}
use Prim.Native.Nat.{ℕ, zero, suc, ◌+◌, ◌-◌, ◌*◌, ◌/◌, ◌%◌, ◌^◌, ◌≤◌, ◌<◌}
use native.Mathlib.Decide.{dec_lt, ℕ_discrete}
use native.Mathlib.Nat.{pow-suc, div-one, mod-one, mod-lt, mod-eq_of_lt, one-mul, mul_comm, mul_assoc, mul-add, mul-le-mul_right}
use native.Mathlib.Numerals.{add-one}
use native.Mathlib.Omega.{arith}
use lib.Arith.{digits_mod}
use lib.Dec.{eqb, lit<}
use lib.ListN.{get_or}
use lib.Pow.{pow-add}
use Rattle.std.specs.Prelude.{Option, None, Some}
use Rattle.lists.proofs.Laws.{table-written, table-entry}
use Rattle.key.specs.declared.Span.{Span}
use Rattle.key.specs.Form.{form_of, span}
use Rattle.key.specs.Promises.{joined}
use Rattle.key.specs.Blocks.{Names}
use Rattle.key.specs.Reading.{EndsIn, start_up, starts_table}
use Rattle.key.proofs.Powers.{pow-least, pow-most}
use Rattle.key.proofs.Digits.{form-whole, digit_split, digit-above}
use Rattle.key.proofs.Blocks.{lies, form-at}
use Rattle.key.proofs.Joined.{form-cut}
use Rattle.key.proofs.Around.{key-zeros}
use Rattle.key.proofs.Named.{block-lies}
use Rattle.key.proofs.Reading.{digit-told}
use Rattle.key.proofs.Spans.{same-start}

-- ---- the zeros: r are read, and what is left is above them

pub record Ending (m key rest r : ℕ) : Type 0 where
  pub within : r ≤ m
  pub left : rest ≡ key / 5 ^ r
  pub zeros : key % 5 ^ r ≡ 0

pub ending-first : (m key : ℕ) → Ending m key key 0
ending-first m key = record { within = omega arith; left = sym (div-one key); zeros = mod-one key }

module _ {m key rest r : ℕ} (E : Ending m key rest r) where
  -- the digit that is next
  digit : key % 5 ^ suc r ≡ rest % 5 * 5 ^ r
  digit = omega (arith, digit_split r key, E.zeros, ap (λ (n : ℕ). n % 5 * 5 ^ r) E.left)

  pub ending-next : r < m → rest % 5 ≡ 0 → Ending m key (rest / 5) (r + 1)
  ending-next l z = rw (add-one r) (record { within = l; left = digit-above r key E.left; zeros = omega (arith, digit, ap (λ (d : ℕ). d * 5 ^ r) z) })

  pub ending-some : (rest % 5 ≡ 0 → ⊥) → EndsIn m key r
  ending-some n = record {
    most = E.within;
    zeros = E.zeros;
    no_more = λ l z. let some : 1 ≤ rest % 5 = omega (arith, n) in omega (arith, digit, z, mul-le-mul_right (5 ^ r) some, one-mul (5 ^ r), pow-least 4 r);
  }

  pub ending-all : m ≤ r → EndsIn m key r
  ending-all l = record { most = E.within; zeros = E.zeros; no_more = λ h. absurd (omega arith) }

-- they are the exponent
pub ends-exponent : {m key i s r : ℕ} → Names m key i s → EndsIn m key r → r ≡ i
ends-exponent {m} {key} {i} {s} {r} n e = go (dec_lt r i)
  where
    least : r ≤ i
    least = (key-zeros n r e.most).0 e.zeros

    go : Dec (r < i) → r ≡ i
    go (yes l) = let h : r < m = omega (arith, (block-lies n).small) in absurd (e.no_more h ((key-zeros n (suc r) h).1 l))
    go (no l) = omega (arith, least)

-- ---- the digits before them

-- a digit, and the start of the block above it
joined-start : (a b t : ℕ) (g : Option Span) {i s : ℕ} → joined 1 (Some (span a b)) g ≡ Some (span i s) → ((h u : ℕ) → g ≡ Some (span h u) → t ≡ u) → b + 4 * t ≡ s
unfolding joined
joined-start a b t (Some above) {i} {s} e is = go (eqb above.exponent 0 || eqb a 1) e
  where
    go : (c : Bool) → cond c (Some (span (above.exponent + a) (above.start * 4 ^ 1 + b))) None ≡ Some (span i s) → b + 4 * t ≡ s
    go true x = let z : above.start * 4 ^ 1 + b ≡ s = same-start x in omega (arith, is above.exponent above.start refl)
    go false x = let z : ◌≡◌ {A = ℕ} 0 1 = cc in omega arith
joined-start a b t None e is = let z : ◌≡◌ {A = ℕ} 0 1 = cc in omega arith

start-form : (m key : ℕ) {i s : ℕ} → form_of m key ≡ Some (span i s) → start_up m key ≡ s
unfolding start_up
start-form zero key {i} e = omega (arith, (lies (form-at 0 key e)).span, pow-least 3 i)
start-form (suc k) key {i} {s} e = go (λ h u. start-form k (key / 5) {i = h} {s = u}) (ℕ_discrete (key % 5) 0)
  where
    cut : joined 1 (form_of 1 (key % 5)) (form_of k (key / 5)) ≡ Some (span i s)
    cut = sym (form-cut k 1 key) ∙ ap (λ (m : ℕ). form_of m key) (add-one k) ∙ e

    with-digit : ((h u : ℕ) → form_of k (key / 5) ≡ Some (span h u) → start_up k (key / 5) ≡ u) → (a b : ℕ) → form_of 1 (key % 5) ≡ Some (span a b)
        → b + 4 * start_up k (key / 5) ≡ s
    with-digit above a b d = joined-start a b (start_up k (key / 5)) (form_of k (key / 5)) (rw d at cut) above

    go : ((h u : ℕ) → form_of k (key / 5) ≡ Some (span h u) → start_up k (key / 5) ≡ u) → Dec (key % 5 ≡ 0) → key % 5 - 1 + 4 * start_up k (key / 5) ≡ s
    go above (yes z) = omega (arith, z, with-digit above 1 0 (rw z (form-whole 1)))
    go above (no z) = with-digit above 0 (key % 5 - 1) (digit-told (omega (arith, z)) (mod-lt key (lit< tt)))

-- digits before the first count for none
start_none : (d : ℕ) → start_up d 0 ≡ 0
unfolding start_up
start_none zero = refl
start_none (suc d) = omega (arith, start_none d)

start-more : (n d x : ℕ) → x < 5 ^ n → start_up (n + d) x ≡ start_up n x
unfolding start_up
start-more zero d x h = let z : x ≡ 0 = omega arith in let e : zero + d ≡ d = omega arith in rw (e, z) (start_none d)
start-more (suc n) d x h =
    let e : suc n + d ≡ suc (n + d) = omega arith in
    rw e (ap (λ (t : ℕ). x % 5 - 1 + 4 * t) (start-more n d (x / 5) (omega (arith, pow-suc 5 n))))

-- so the start is that of twelve digits, whatever m is
pub start-told : {m key i s : ℕ} → m ≤ 12 → Names m key i s → start_up 12 key ≡ s
start-told {m} {key} {i} l n =
    let small : key < 5 ^ m = omega (arith, (block-lies n).keys, pow-least 4 i) in
    let e : m + (12 - m) ≡ 12 = omega arith in
    rw e at (start-more m (12 - m) key small) ∙ start-form m key n.is

-- ---- by twos

pub starts-listed : starts_table
    ≡ 0 ∷ 0 ∷ 1 ∷ 2 ∷ 3 ∷ 0 ∷ 0 ∷ 1 ∷ 2 ∷ 3 ∷ 4 ∷ 4 ∷ 5 ∷ 6 ∷ 7 ∷ 8 ∷ 8 ∷ 9 ∷ 10 ∷ 11 ∷ 12 ∷ 12 ∷ 13 ∷ 14 ∷ 15 ∷ []
unfolding starts_table start_up
starts-listed = sym (table-written (λ (x : ℕ). start_up 2 x) 0 25)

pub starts-entry : {table : List ℕ} (x : ℕ) → table ≡ starts_table → x < 25 → get_or table x 0 ≡ start_up 2 x
unfolding starts_table
starts-entry x e h = table-entry (λ (y : ℕ). start_up 2 y) 25 x e h

pub pair-most : (x : ℕ) → start_up 2 x ≤ 15
unfolding start_up
pair-most x = omega arith

start-pair : (n x : ℕ) → start_up (suc (suc n)) x ≡ start_up 2 (x % 25) + 16 * start_up n (x / 25)
unfolding start_up
start-pair n x =
    let e : x / 5 / 5 ≡ x / 25 = omega arith in
    let low : x % 25 % 5 ≡ x % 5 = omega arith in
    let small : x % 25 / 5 < 5 = omega arith in
    let split : x / 5 ≡ x / 25 * 5 + x % 25 / 5 = omega arith in
    let high : x / 5 % 5 ≡ x % 25 / 5 = ap (λ (y : ℕ). y % 5) split ∙ digits_mod (x / 25) small in
    let once : x % 25 / 5 % 5 ≡ x % 25 / 5 = mod-eq_of_lt small in
    rw e (omega (arith, low, high, once))

-- k digits are read
pub record Starting (key rest start k : ℕ) : Type 0 where
  pub within : k ≤ 12
  pub even : k % 2 ≡ 0
  pub below : start < 4 ^ k
  pub is : start_up 12 key ≡ start + 4 ^ k * start_up (12 - k) rest

pub starting-first : (key : ℕ) → Starting key key 0 0
starting-first key = record { within = omega arith; even = refl; below = omega arith; is = omega (arith, one-mul (start_up 12 key)) }

module _ {key rest start k : ℕ} (S : Starting key rest start k) where
  pub starting-next : {pair p : ℕ} → k < 12 → pair ≡ start_up 2 (rest % 25) → p ≡ 4 ^ k → Starting key (rest / 25) (pair * p + start) (k + 2)
  starting-next {pair} {p} l a b =
      let more : 4 ^ (k + 2) ≡ 4 ^ k * 16 = pow-add 4 k 2 in
      let left : 12 - k ≡ suc (suc (12 - (k + 2))) = omega (arith, S.even) in
      let B : ℕ = start_up (12 - (k + 2)) (rest / 25) in
      let both : start_up (12 - k) rest ≡ pair + 16 * B = ap (λ (n : ℕ). start_up n rest) left ∙ start-pair _ rest ∙ ap (λ (x : ℕ). x + 16 * B) (sym a) in
      let spread : 4 ^ k * start_up (12 - k) rest ≡ pair * 4 ^ k + 4 ^ k * 16 * B =
      ap (λ (x : ℕ). 4 ^ k * x) both ∙ mul-add (4 ^ k) pair (16 * B) ∙ rw (mul_comm (4 ^ k) pair, mul_assoc (4 ^ k) 16 B) refl in
      let few : pair ≤ 15 = omega (arith, a, pair-most (rest % 25)) in
      rw b (record {
        within = omega (arith, S.even);
        even = omega (arith, S.even);
        below = omega (arith, more, S.below, mul-le-mul_right (4 ^ k) few);
        is = rw more (omega (arith, S.is, spread));
      })

  -- the places fit
  pub starting-small : start < 4 ^ 12
  starting-small = omega (arith, S.below, pow-most 3 k S.within)

  pub starting-last : 12 ≤ k → start ≡ start_up 12 key
  unfolding start_up
  starting-last l = let e : k ≡ 12 = omega (arith, S.within) in omega (arith, rw e at S.is)
