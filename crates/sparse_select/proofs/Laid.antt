-- Keys that are listed for each maximal block, where those of a block make up its places with some property: no key twice, no place in two blocks, no more blocks than pixels, none of
-- them outside the window, and together exactly its pixels with the property.
-- Assumes nothing.
use mathlib.Core.Path.{◌≡◌, ap, subst}
use mathlib.Core.Logic.{◌↔◌, ◌≢◌}
use mathlib.Core.Bool.{true}
use mathlib.Core.List.{List, flat_map, Memᴰ}
use Prim.Native.Nat.{ℕ, ◌+◌, ◌*◌, ◌^◌, ◌≤◌}
use native.Mathlib.Omega.{arith}
use lib.ListN.{length}
use Rattle.lists.specs.Lists.{Ordered}
use Rattle.lists.proofs.Laws.{pigeon, rising-distinct, flat_in, in-flat, flat-ordered, flat-map}
use Rattle.key.specs.Picture.{Pixel, place, Px}
use Rattle.key.specs.Form.{form_of}
use Rattle.key.specs.Blocks.{Names}
use Rattle.key.proofs.Laws.{PixelAt, block-lies, one_block, place-onto, pow-least, size-le}
use Rattle.window.specs.declared.Window.{Window}
use Rattle.window.specs.Window.{In, Inside}
use Rattle.window.specs.Blocks.{exponent, maximal, pixels}
use Rattle.window.specs.Promises.{Before}
use Rattle.window.specs.Keys.{key_of, keys_of}
use Rattle.window.proofs.Laws.{keys-of, key-named, pixel-in, listed-ordered, before-irrefl, block_of, fits_all, exponent-le, exponent-fits, pixels-length, pixels-most, in-pixels}
use Rattle.map.specs.Spans.{holds}
use Rattle.map.specs.Sound.{Spaced}
use Rattle.map.proofs.Laws.{holds-is}
use Rattle.border.specs.Step.{Corner}
use Rattle.border.proofs.Laws.{spans, listed-corner}
use Rattle.select.proofs.Laws.{one-corner}
use Rattle.sparse_select.proofs.Made.{Made, Part, made_in, made-place, made-rising, made_one}

-- what is listed of a block, by its key, makes up its places with the property
pub record Blockwise (m : ℕ) (P : ℕ → Type 0) (of : ℕ → List ℕ) : Type 0 where
  pub makes : {key i s : ℕ} → Names m key i s → Made m P (s + 4 ^ i) s (of key)

-- by the corners of the blocks
pub laid-is : (m top : ℕ) (W : Window) (of : ℕ → List ℕ) → flat_map of (keys_of m top W) ≡ flat_map (λ b. of (key_of m top W b)) (maximal W top)
laid-is m top W of = rw (keys-of m top W) (flat-map of (key_of m top W) (maximal W top))

module _ {m top : ℕ} {keys : List ℕ} (F : Spaced m 0 keys) {W : Window} (I : Inside m W) (small : top ≤ m) {P : ℕ → Type 0} {of : ℕ → List ℕ} (B : Blockwise m P of) where
  abbrev at : Px → List ℕ
  at b = of (key_of m top W b)

  made : {b : Px} → Corner W top b → Made m P (place b.0 b.1 + 4 ^ exponent W top b) (place b.0 b.1) (of (key_of m top W b))
  made C = B.makes (key-named I small C.inside C.own)

  -- each key comes from a maximal block, and is part of it
  record From (x : ℕ) : Type 0 where
    corner : Px
    own : Corner W top corner
    gives : Memᴰ x (of (key_of m top W corner))
    part : Part m P (place corner.0 corner.1) (place corner.0 corner.1 + 4 ^ exponent W top corner) x

  from_block : {b : Px} {x : ℕ} → Corner W top b → Memᴰ x (of (key_of m top W b)) → From x
  from_block {b} C l = record { corner = b; own = C; gives = l; part = made_in (made C) l }

  from : {x : ℕ} → Memᴰ x (flat_map of (keys_of m top W)) → From x
  from l = let t = flat_in at (maximal W top) (rw (laid-is m top W of) at l) in from_block (listed-corner t.1) t.2

  -- no two of these blocks share a place
  one : (q : ℕ) {x y : ℕ} → From x → From y → holds q (form_of m x) ≡ true → holds q (form_of m y) ≡ true → x ≡ y
  one q f g h k =
      let a = (holds-is q f.part.names).0 h in
      let b = (holds-is q g.part.names).0 k in
      let c = one-corner F I small {q = q} f.own g.own (omega (arith, f.part)) (omega (arith, g.part)) in
      made_one (made f.own) q f.gives (rw c g.gives) h k

  pub laid_one : (q : ℕ) {x y : ℕ} → Memᴰ x (flat_map of (keys_of m top W)) → Memᴰ y (flat_map of (keys_of m top W))
      → holds q (form_of m x) ≡ true → holds q (form_of m y) ≡ true → x ≡ y
  laid_one q l n h k = one q (from l) (from n) h k

  -- and no key is listed twice
  pub laid-once : Ordered ◌≢◌ (flat_map of (keys_of m top W))
  laid-once = rw (laid-is m top W of) (flat-ordered at (listed-ordered W top) (λ b l. rising-distinct (made-rising (made (listed-corner l)))) apart)
    where
      apart : (b c : Px) → Memᴰ b (maximal W top) → Memᴰ c (maximal W top) → Before b c → (x y : ℕ) → Memᴰ x (at b) → Memᴰ y (at c) → x ≢ y
      apart b c l n h x y i j e =
          let P = made_in (made (listed-corner l)) i in
          let Q = made_in (made (listed-corner n)) j in
          let d = one_block (subst (λ (k : ℕ). Names m k P.exponent P.start) e P.names) Q.names in
          before-irrefl h
          (one-corner F I small {q = P.start} (listed-corner l) (listed-corner n) (omega (arith, P.low, P.high, pow-least 3 P.exponent))
          (omega (arith, Q.low, Q.high, d.1, pow-least 3 Q.exponent)))

  -- a pixel of the picture in one of these blocks is the window's
  pub laid-inside : (p : Px) {x : ℕ} → Pixel m p.0 p.1 → Memᴰ x (flat_map of (keys_of m top W)) → holds (place p.0 p.1) (form_of m x) ≡ true → In W p
  laid-inside p v l h =
      let f = from l in
      let a = (holds-is (place p.0 p.1) f.part.names).0 h in
      fits_all (exponent-fits W top f.own.inside) p ((spans F I small f.own v).0 (omega (arith, f.part)))

  -- and none of them is larger than the largest block that may be used
  pub laid-small : {x i s : ℕ} → Memᴰ x (flat_map of (keys_of m top W)) → Names m x i s → i ≤ top
  laid-small {x} {i} {s} l n =
      let f = from l in
      let e = one_block n f.part.names in
      let most : 4 ^ i ≤ 4 ^ exponent W top f.corner = omega (arith, ap (λ (j : ℕ). 4 ^ j) e.0, f.part.low, f.part.high) in
      omega (arith, (size-le i (exponent W top f.corner)).1 most, exponent-le W top f.corner)

  -- ---- the pixels with the property

  pub laid-has : (q : ℕ) {x : ℕ} → Memᴰ x (flat_map of (keys_of m top W)) → holds q (form_of m x) ≡ true → P q
  laid-has q l h = let p = (from l).part in p.all q ((holds-is q p.names).0 h)

  pub laid-holds : {p : Px} → In W p → P (place p.0 p.1) → (x : ℕ) × Memᴰ x (flat_map of (keys_of m top W)) × (holds (place p.0 p.1) (form_of m x) ≡ true)
  laid-holds {p} v e =
      let b = block_of W top v in
      let C = listed-corner b.1 in
      let a = (spans F I small C {p = p} (pixel-in I v)).1 b.2 in
      let t = made-place (made C) (place p.0 p.1) a.least a.most e in
      (t.0, rw (laid-is m top W of) (in-flat at b.1 t.1), t.2)

  -- a pixel of the window has it exactly when some listed key's block holds it
  pub laid-pixels : {p : Px} → In W p
      → P (place p.0 p.1) ↔ ((x : ℕ) × Memᴰ x (flat_map of (keys_of m top W)) × (holds (place p.0 p.1) (form_of m x) ≡ true))
  laid-pixels {p} v = (laid-holds v, λ t. laid-has (place p.0 p.1) t.1 t.2)

  -- ---- how many

  -- each has the pixel of its first place
  first : {x : ℕ} → Memᴰ x (flat_map of (keys_of m top W)) → (p : Px) × Memᴰ p (pixels W) × (holds (place p.0 p.1) (form_of m x) ≡ true)
  first {x} l = go (place-onto m S.start (omega (arith, (block-lies S.names).span, pow-least 3 S.exponent)))
    where
      S : Part m P (place (from l).corner.0 (from l).corner.1) (place (from l).corner.0 (from l).corner.1 + 4 ^ exponent W top (from l).corner) x
      S = (from l).part

      go : PixelAt m S.start → (p : Px) × Memᴰ p (pixels W) × (holds (place p.0 p.1) (form_of m x) ≡ true)
      go a =
          let p : Px = (a.row, a.col) in
          let h = (holds-is (place a.row a.col) S.names).1 (rw a.is (omega (arith, pow-least 3 S.exponent))) in
          (p, (in-pixels W).1 (laid-inside p a.pixel l h), h)

  -- there are no more than pixels of the window
  pub laid-most : length (flat_map of (keys_of m top W)) ≤ W.h * W.w
  laid-most =
      omega (
        arith,
        pixels-length W,
        pigeon (λ (x : ℕ) (p : Px). holds (place p.0 p.1) (form_of m x) ≡ true) (pixels W) laid-once (λ x l. first l) (λ x y p l n. laid_one (place p.0 p.1) l n),
      )

  pub laid-fits : Inside 12 W → length (flat_map of (keys_of m top W)) ≤ 16777216
  laid-fits J = omega (arith, laid-most, pixels-most W J)
