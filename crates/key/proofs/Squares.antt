-- A block as a square: its corner is the pixel at whose place its span starts, and its pixels are 2 ^ i rows and 2 ^ i columns from there on.
-- Assumes nothing.
use mathlib.Core.Path.{◌≡◌, refl, sym, ap, ◌∙◌}
use mathlib.Core.Logic.{◌↔◌}
use Prim.Native.Nat.{ℕ, suc, ◌+◌, ◌-◌, ◌*◌, ◌/◌, ◌%◌, ◌^◌, ◌≤◌, ◌<◌}
use native.Mathlib.Nat.{add_comm, one-mul, pow-succ', mul-le-mul_right, div-one}
use native.Mathlib.Nat.{mod-lt, mod-eq_of_lt, div-mul-le_self, lt-div-mul-add, div-eq_of_lt, div-eq_of_lt-le, zero-mul, add-mul}
use native.Mathlib.Numerals.{add-one}
use native.Mathlib.Decide.{dec_lt}
use native.Mathlib.Omega.{arith}
use lib.Arith.{digits_div, digits_mod}
use lib.Dec.{lit<}
use Rattle.std.specs.Prelude.{Option, None, Some}
use Rattle.lists.proofs.Laws.{down-nested}
use Rattle.key.specs.declared.Square.{Square}
use Rattle.key.specs.declared.Span.{Span}
use Rattle.key.specs.Picture.{Pixel, place}
use Rattle.key.specs.Form.{form_of, from, span}
use Rattle.key.specs.Blocks.{Names, SquareOf, Among}
use Rattle.key.proofs.Powers.{pow-least}
use Rattle.key.proofs.Digits.{form-whole, form-gap, form-digit, digit_split, digit-above}
use Rattle.key.proofs.Pixels.{larger, no_place, place-corner, place-quadrant}
use Rattle.key.proofs.Named.{one_block, block-named, block-lies, holds-own, holds_same}
use Rattle.key.proofs.Spans.{same-exponent, same-start}

-- the square of exponent i whose corner is the pixel in row r, column c
abbrev pub square : ℕ → ℕ → ℕ → Square
square i r c = record { exponent = i; row = r; col = c }

-- ---- what is told of a block's key

pub square-names : {m key i s : ℕ} {q : Square} → SquareOf m key q → Names m key i s → Names m key q.exponent (place q.row q.col)
square-names S n = let e = S.is n in rw (e.0, e.1) n

-- ---- a block's corner

pub block-corner : {m key i r c : ℕ} → Names m key i (place r c) → Pixel m r c → (r / 2 ^ i * 2 ^ i ≡ r) × (c / 2 ^ i * 2 ^ i ≡ c)
block-corner {m} {key} {i} {r} {c} b p =
    let own = (holds-own b p).0 (omega (arith, pow-least 3 i)) in
    place-corner i r c (sym (one_block b (rw (← own) at (block-named m i r c (block-lies b).small p))).1)

-- ---- its rows and columns

-- from a multiple of 2 ^ i on, 2 ^ i numbers agree with it
same-side : (i r y : ℕ) → r / 2 ^ i * 2 ^ i ≡ r → (r / 2 ^ i ≡ y / 2 ^ i) ↔ Among r (2 ^ i) y
same-side i r y z = (
  λ e. let t : y / 2 ^ i * 2 ^ i ≡ r = rw (← e) z in omega (arith, div-mul-le_self y (2 ^ i), lt-div-mul-add {a = y} (pow-least 1 i)),
  λ l. sym (div-eq_of_lt-le (2 ^ i) (omega (arith, z)) (omega (arith, z, add-mul (r / 2 ^ i) 1 (2 ^ i)))),
)

pub span-square : {m key i r c y x : ℕ} → Names m key i (place r c) → Pixel m r c → Pixel m y x
    → Among (place r c) (4 ^ i) (place y x) ↔ (Among r (2 ^ i) y × Among c (2 ^ i) x)
span-square {m} {key} {i} {r} {c} {y} {x} b p q =
    let h = holds_same b p q (omega (arith, pow-least 3 i)) in
    let z = block-corner b p in
    let rows = same-side i r y z.0 in
    let cols = same-side i c x z.1 in
    (λ l. let e = h.0 l in (rows.0 e.0, cols.0 e.1), λ l. h.1 (rows.1 l.0, cols.1 l.1))

-- which are all in the picture
side-inside : (i m x : ℕ) → i ≤ m → x / 2 ^ i * 2 ^ i ≡ x → x < 2 ^ m → x + 2 ^ i ≤ 2 ^ m
side-inside i m x l z h = let zero : x / 2 ^ m * 2 ^ m ≡ 0 = rw (div-eq_of_lt h) (zero-mul (2 ^ m)) in omega (arith, z, zero, (down-nested 1 i m x l).1)

pub square-inside : {m key i r c : ℕ} → Names m key i (place r c) → Pixel m r c → (r + 2 ^ i ≤ 2 ^ m) × (c + 2 ^ i ≤ 2 ^ m)
square-inside {m} {key} {i} {r} {c} b p =
    let z = block-corner b p in
    let l = (block-lies b).small in
    (side-inside i m r l z.0 p.row, side-inside i m c l z.1 p.col)

-- ---- read from the small end, digit by digit

pub no_names : {m key i s : ℕ} → form_of m key ≡ None → Names m key i s → ⊥
no_names e n = let d = sym e ∙ n.is in let z : ◌≡◌ {A = ℕ} 0 1 = cc in omega arith

-- of the picture of one pixel
square-first : (key : ℕ) → SquareOf 0 (key % 5 ^ 0) (square 0 0 0)
square-first key = record {
  pixel = omega arith;
  small = omega arith;
  is = λ n. let z : key % 5 ^ 0 ≡ 0 = omega (arith, mod-lt key (pow-least 4 0)) in
      let o = one_block (record { is = form-whole 0 }) (rw z at n) in (o.0, no_place ∙ o.1);
}

module _ (k key : ℕ) {i r c : ℕ} (S : SquareOf k (key % 5 ^ k) (square i r c)) where
  abbrev digit : ℕ
  digit = key / 5 ^ k % 5

  low : key % 5 ^ k < 5 ^ k
  low = mod-lt key (pow-least 4 k)

  square-zero : key / 5 ^ k % 5 ≡ 0 → SquareOf (suc k) (key % 5 ^ suc k) (square (i + 1) r c)
  square-zero z = record { pixel = larger (omega arith) S.pixel; small = omega (arith, S.small); is = named }
    where
      same : key % 5 ^ suc k ≡ key % 5 ^ k
      same = omega (arith, digit_split k key, ap (λ (d : ℕ). d * 5 ^ k) z)

      named : {j s : ℕ} → Names (suc k) (key % 5 ^ suc k) j s → (i + 1 ≡ j) × (place r c ≡ s)
      named {j} {s} n = go (dec_lt 0 (key % 5 ^ k))
        where
          go : Dec (0 < key % 5 ^ k) → (i + 1 ≡ j) × (place r c ≡ s)
          go (yes h) = absurd (no_names (form-gap k (key % 5 ^ k) (λ e. omega (arith, e, h)) low) (rw same at n))
          go (no h) =
              let e : key % 5 ^ k ≡ 0 = omega (arith, h) in
              let below = S.is {i = k} {s = 0} (record { is = rw e (form-whole k) }) in
              let here = one_block (record { is = form-whole (suc k) }) (rw (same ∙ e) at n) in
              (omega (arith, below.0, here.0), below.1 ∙ here.1)

  -- the quadrant that a digit chooses
  abbrev d : ℕ
  d = digit - 1

  module _ (z : key / 5 ^ k % 5 ≡ 0 → ⊥) where
    few : d < 4
    few = let l : digit < 5 = mod-lt (key / 5 ^ k) (lit< tt) in omega (arith, z)

    inside : Pixel (suc k) (r + d / 2 * 2 ^ k) (c + d % 2 * 2 ^ k)
    inside =
        let a : d / 2 ≤ 1 = omega (arith, few) in
        let b : d % 2 ≤ 1 = omega arith in
        omega (arith, S.pixel, mul-le-mul_right (2 ^ k) a, mul-le-mul_right (2 ^ k) b, pow-succ' 2 k)

    there : place (r + d / 2 * 2 ^ k) (c + d % 2 * 2 ^ k) ≡ d * 4 ^ k + place r c
    there = rw (add_comm r (d / 2 * 2 ^ k), add_comm c (d % 2 * 2 ^ k)) (place-quadrant k d r c few S.pixel)

    first : form_of (suc k) (key % 5 ^ suc k) ≡ from (d * 4 ^ k) (form_of k (key % 5 ^ k))
    first =
        let some : 1 ≤ digit = omega (arith, z) in
        let l : 5 ^ k ≤ key % 5 ^ suc k = omega (arith, digit_split k key, mul-le-mul_right (5 ^ k) some, one-mul (5 ^ k)) in
        form-digit k (key % 5 ^ suc k) l (mod-lt key (pow-least 4 (suc k))) ∙ rw (digit_split k key, digits_div digit low, digits_mod digit low)

    square-digit : SquareOf (suc k) (key % 5 ^ suc k) (square i (r + (key / 5 ^ k % 5 - 1) / 2 * 2 ^ k) (c + (key / 5 ^ k % 5 - 1) % 2 * 2 ^ k))
    unfolding from
    square-digit = record { pixel = inside; small = omega (arith, S.small); is = λ {i = j} {s} n. named n (form_of k (key % 5 ^ k)) refl }
      where
        named : {j s : ℕ} → Names (suc k) (key % 5 ^ suc k) j s → (f : Option Span) → form_of k (key % 5 ^ k) ≡ f → (i ≡ j) × (place (r + d / 2 * 2 ^ k) (c + d % 2 * 2 ^ k) ≡ s)
        named {j} {s} n (Some b) e =
            let below = S.is (record { is = e }) in
            let all : Some (span b.exponent (d * 4 ^ k + b.start)) ≡ Some (span j s) = sym (first ∙ ap (from (d * 4 ^ k)) e) ∙ n.is in
            let size : b.exponent ≡ j = same-exponent all in
            let start : d * 4 ^ k + b.start ≡ s = same-start all in
            (below.0 ∙ size, there ∙ omega (arith, below.1, start))
        named {j} {s} n None e = absurd (no_names (first ∙ ap (from (d * 4 ^ k)) e) n)

-- ---- along the digits: k are read, and what is left is above them

pub record Squaring (m key rest i r c k : ℕ) : Type 0 where
  pub within : k ≤ m
  pub left : rest ≡ key / 5 ^ k
  pub so : SquareOf k (key % 5 ^ k) (square i r c)

pub squaring-first : (m key : ℕ) → Squaring m key key 0 0 0 0
squaring-first m key = record { within = omega arith; left = sym (div-one key); so = square-first key }

module _ {m key rest i r c k : ℕ} (Q : Squaring m key rest i r c k) (l : k < m) where
  pub squaring-zero : rest % 5 ≡ 0 → Squaring m key (rest / 5) (i + 1) r c (k + 1)
  squaring-zero z = rw (add-one k) (record { within = l; left = digit-above k key Q.left; so = square-zero k key Q.so (rw (← Q.left) z) })

  pub squaring-digit : (rest % 5 ≡ 0 → ⊥) → {side : ℕ} → side ≡ 2 ^ k
      → Squaring m key (rest / 5) i (r + (rest % 5 - 1) / 2 * side) (c + (rest % 5 - 1) % 2 * side) (k + 1)
  squaring-digit z e = rw (add-one k, e) (record { within = l; left = digit-above k key Q.left; so = rw Q.left (square-digit k key Q.so (rw (← Q.left) z)) })

-- of all digits
pub squaring-last : {m key rest i r c k : ℕ} → Squaring m key rest i r c k → m ≤ k → SquareOf m key (square i r c)
squaring-last {m} {key} {k = k} Q l =
    let e : k ≡ m = omega (arith, Q.within) in
    let S : SquareOf m (key % 5 ^ m) (square _ _ _) = rw e at Q.so in
    record {
      pixel = S.pixel;
      small = S.small;
      is = λ {i = j} n. let low : key % 5 ^ m ≡ key = mod-eq_of_lt (omega (arith, (block-lies n).keys, pow-least 4 j)) in S.is (rw low n);
    }
