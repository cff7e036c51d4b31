-- A record as a square: each side is told by one comparison, and one that lies on no side shares a pixel with the window.
-- Assumes nothing.
use mathlib.Core.Path.{◌≡◌, refl, sym, ◌∙◌}
use mathlib.Core.Bool.{Bool, true}
use mathlib.Core.List.{List}
use Prim.Native.Nat.{ℕ, max, ◌+◌, ◌-◌, ◌^◌, ◌≤◌, ◌<◌}
use native.Mathlib.Omega.{arith}
use lib.Dec.{leb, ltb}
use lib.ListN.{length, get_or}
use borrow.Author.Tests.{leb-true, ltb-true, le-leb, lt-ltb}
use Rattle.std.specs.Prelude.{Option, None}
use Rattle.lists.specs.Lists.{all}
use Rattle.lists.proofs.Laws.{agree, all-is}
use Rattle.key.specs.declared.Square.{Square}
use Rattle.key.specs.Picture.{Pixel, place, Px}
use Rattle.key.specs.Blocks.{SquareOf, Among}
use Rattle.key.proofs.Laws.{block-lies, square-names, square-inside, place-onto, pow-least}
use Rattle.window.specs.declared.Window.{Window}
use Rattle.window.specs.Window.{In, Inside}
use Rattle.window.proofs.Laws.{pixel-in}
use Rattle.map.specs.Sound.{Spaced}
use Rattle.map.proofs.Laws.{Record, record-at, record-square}
use Rattle.border.specs.Promises.{Touches}
use Rattle.why.specs.declared.Side.{Side}
use Rattle.why.specs.Why.{pixels_of, lies_of}
use Rattle.why.specs.Parts.{square_lies}
use Rattle.why.specs.Promises.{FirstTrue, none}
use Rattle.why.proofs.Sides.{pixels-of, first-true, true-first, at_most}

-- ---- a square

module _ (W : Window) (i r c : ℕ) where
  -- where a square lies, by four comparisons
  abbrev pub SquareLies : Option Side → Type 0
  SquareLies = FirstTrue (r + 2 ^ i ≤ W.r0) (W.r0 + W.h ≤ r) (c + 2 ^ i ≤ W.c0) (W.c0 + W.w ≤ c)

  pub square-lies : SquareLies (square_lies W i (r, c))
  unfolding square_lies
  square-lies = first-true _ _ _ _ (at_most (r + 2 ^ i) W.r0) (at_most (W.r0 + W.h) r) (at_most (c + 2 ^ i) W.c0) (at_most (W.c0 + W.w) c)

  pub lies_so : {l : Option Side} → SquareLies l → l ≡ square_lies W i (r, c)
  unfolding square_lies
  lies_so = true-first _ _ _ _ (at_most (r + 2 ^ i) W.r0) (at_most (W.r0 + W.h) r) (at_most (c + 2 ^ i) W.c0) (at_most (W.c0 + W.w) c)

-- ---- a record, by its square

-- of the record that is a block of side 2 ^ i with corner (r, c)
module _ {m : ℕ} {keys : List ℕ} (F : Spaced m 0 keys) {n i r c : ℕ} (R : Record m keys n i (place r c)) (v : Pixel m r c) where
  abbrev InSquare : Px → Type 0
  InSquare p = Among r (2 ^ i) p.0 × Among c (2 ^ i) p.1

  -- all its pixels pass a test exactly when one of them passes, that which does so last
  by_last : (f : Px → Bool) (b : Bool) (x : Px) → InSquare x → (f x ≡ true → b ≡ true) → (b ≡ true → (p : Px) → InSquare p → f p ≡ true) → all f (pixels_of m keys n) ≡ b
  by_last f b x s one each =
      let t = all-is f (pixels_of m keys n) in
      let inside = square-inside R.names v in
      let u : Pixel m x.0 x.1 = omega (arith, s.0, s.1, inside) in
      agree (all f (pixels_of m keys n)) b (
        λ e. one (t.0 e x ((pixels-of m keys n).1 (u, (record-square F R v u).1 s))),
        λ e. t.1 (λ p l. let k = (pixels-of m keys n).0 l in each e p ((record-square F R v k.0).0 k.1)),
      )

  abbrev first : Px
  first = (r, c)

  abbrev last : Px
  last = (r + 2 ^ i - 1, c + 2 ^ i - 1)

  first-in : InSquare first
  first-in = (omega (arith, pow-least 1 i), omega (arith, pow-least 1 i))

  last-in : InSquare last
  last-in = (omega (arith, pow-least 1 i), omega (arith, pow-least 1 i))

  -- by rows or by columns, from a on: all are before a number, or from it on
  module _ (axis : Px → ℕ) (a : ℕ) (along : (p : Px) → InSquare p → Among a (2 ^ i) (axis p)) (x : ℕ) where
    before-is : axis last ≡ a + 2 ^ i - 1 → all (λ p. ltb (axis p) x) (pixels_of m keys n) ≡ leb (a + 2 ^ i) x
    before-is e =
        by_last (λ p. ltb (axis p) x) (leb (a + 2 ^ i) x) last last-in
        (λ h. le-leb (a + 2 ^ i) x (omega (arith, e, ltb-true (axis last) x h)))
        (λ h p s. lt-ltb (axis p) x (omega (arith, along p s, leb-true (a + 2 ^ i) x h)))

    behind-is : axis first ≡ a → all (λ p. leb x (axis p)) (pixels_of m keys n) ≡ leb x a
    behind-is e =
        by_last (λ p. leb x (axis p)) (leb x a) first first-in
        (λ h. le-leb x a (omega (arith, e, leb-true x (axis first) h)))
        (λ h p s. le-leb x (axis p) (omega (arith, along p s, leb-true x a h)))

  module _ (W : Window) where
    abbrev row : Px → ℕ
    row p = p.0

    abbrev col : Px → ℕ
    col p = p.1

    pub lies-square : lies_of W (pixels_of m keys n) ≡ square_lies W i (r, c)
    unfolding lies_of square_lies
    lies-square =
        rw (
          before-is row r (λ p s. s.0) W.r0 refl,
          behind-is row r (λ p s. s.0) (W.r0 + W.h) refl,
          before-is col c (λ p s. s.1) W.c0 refl,
          behind-is col c (λ p s. s.1) (W.c0 + W.w) refl,
        )

    -- on no side: a pixel is shared
    pub across-shares : Inside m W → square_lies W i (r, c) ≡ None → Touches m keys W n
    across-shares I e = meets (rw e at (square-lies W i r c))
      where
        meets : SquareLies W i r c None → Touches m keys W n
        meets (none a b d e) =
            let y : ℕ = max r W.r0 in
            let x : ℕ = max c W.c0 in
            let u : In W (y, x) = omega (arith, I, a, b, d, e) in
            record { at = (y, x); inside = u; is = (record-square F R v (pixel-in I u)).1 (omega (arith, a, b, pow-least 1 i), omega (arith, d, e, pow-least 1 i)) }

-- ---- a record, by the square that its key names

module _ {m : ℕ} {keys : List ℕ} (F : Spaced m 0 keys) {n : ℕ} (within : n < length keys) {q : Square} (S : SquareOf m (get_or keys n 0) q) where
  pub record-lies : (W : Window) → lies_of W (pixels_of m keys n) ≡ square_lies W q.exponent (q.row, q.col)
  record-lies W = lies-square F (record { within = within; names = square-names S (record-at F n within).is.names }) S.pixel W

-- a record of the map that lies on no side shares a pixel with the window
pub across-touches : {m : ℕ} {keys : List ℕ} → Spaced m 0 keys → {n : ℕ} → n < length keys → {W : Window} → Inside m W
    → lies_of W (pixels_of m keys n) ≡ None → Touches m keys W n
across-touches {m} {keys} F {n} l {W} I e =
    let R = record-at F n l in
    let b = block-lies R.is.names in
    let p = place-onto m R.start (omega (arith, b, pow-least 3 R.exponent)) in
    let at : Record m keys n R.exponent (place p.row p.col) = rw p.is R.is in
    across-shares F at p.pixel W I (sym (lies-square F at p.pixel W) ∙ e)
