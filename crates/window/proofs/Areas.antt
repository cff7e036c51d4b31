-- The pixels of a window are the places of its maximal blocks, each once: so a test of places finds and counts block by block what it finds and counts among the window's pixels.
-- Assumes nothing.
use mathlib.Core.Path.{◌≡◌, sym, ap₂, ◌∙◌}
use mathlib.Core.Logic.{◌↔◌, ◌≢◌}
use mathlib.Core.Bool.{Bool}
use mathlib.Core.List.Memᴰ
use mathlib.Core.List.{List, map, Memᴰ}
use Prim.Native.Nat.{ℕ, ◌^◌, ◌≤◌}
use native.Mathlib.Omega.{arith}
use Rattle.lists.specs.Promises.{sum}
use Rattle.lists.specs.Lists.{up_from, any, how_many, Ordered}
use Rattle.lists.proofs.Laws.{ordered-imp, distinct-map, up_in, up-distinct, any-map, many-map, InPart, any-parts, many-parts}
use Rattle.key.specs.Picture.{Pixel, place, Px}
use Rattle.key.specs.Blocks.{Names, Among}
use Rattle.key.proofs.Laws.{PixelAt, block-lies, holds_same, place-one, place-onto, pow-least}
use Rattle.window.specs.declared.Window.{Window}
use Rattle.window.specs.Window.{In, Inside}
use Rattle.window.specs.Blocks.{exponent, maximal, pixels}
use Rattle.window.specs.Promises.{Same}
use Rattle.window.specs.Keys.{key_of}
use Rattle.window.proofs.Dyadic.{same_div, fits_all}
use Rattle.window.proofs.Blocks.{exponent-fits}
use Rattle.window.proofs.Listed.{before-irrefl, rows-ordered, listed→, listed-ordered, block_of, block_one}
use Rattle.window.proofs.Keys.{key-named, pixel-in}
use Rattle.window.proofs.Counts.{in-pixels}

-- the place of a pixel, and the places of a maximal block
abbrev place_of : Px → ℕ
place_of p = place p.0 p.1

abbrev places_in : Window → ℕ → Px → List ℕ
places_in W top b = up_from (place b.0 b.1) (4 ^ exponent W top b)

module _ {m : ℕ} {W : Window} (I : Inside m W) {top : ℕ} (small : top ≤ m) where
  module _ {b : Px} (n : Memᴰ b (maximal W top)) where
    named : Names m (key_of m top W b) (exponent W top b) (place_of b)
    named = let k = listed→ W top n in key-named I small k.0 k.1

    -- a block has a pixel by its place exactly when by row and column
    holds : {p : Px} → Pixel m p.0 p.1 → Among (place_of b) (4 ^ exponent W top b) (place_of p) ↔ Same (exponent W top b) b p
    holds {p} v =
        let own : Among (place_of b) (4 ^ exponent W top b) (place_of b) = omega (arith, pow-least 3 (exponent W top b)) in
        let t = holds_same named (pixel-in I (listed→ W top n).0) v own in
        (λ h. (same_div {i = exponent W top b} {p = b} {q = p}).1 (t.0 h), λ s. t.1 ((same_div {i = exponent W top b} {p = b} {q = p}).0 s))

    -- the pixel of a place in a block, and that it lies in the block
    module _ {q : ℕ} (k : Memᴰ q (places_in W top b)) where
      among : Among (place_of b) (4 ^ exponent W top b) q
      among = let u = (up_in (place_of b) (4 ^ exponent W top b) q).0 k in record { least = u.0; most = u.1 }

      pixel-of : PixelAt m q
      pixel-of = place-onto m q (omega (arith, (block-lies named).span, among))

      lies : (a : PixelAt m q) → Same (exponent W top b) b (a.row, a.col)
      lies a = (holds {p = (a.row, a.col)} a.pixel).0 (rw a.is among)

  one : (b c : Px) (q : ℕ) → Memᴰ b (maximal W top) → Memᴰ c (maximal W top) → Memᴰ q (places_in W top b) → Memᴰ q (places_in W top c) → b ≡ c
  one b c q n n' h h' = let a = pixel-of n h in block_one W top n n' (lies n h a) (lies n' h' a)

  members : (q : ℕ) → Memᴰ q (map place_of (pixels W)) ↔ InPart (places_in W top) (maximal W top) q
  members q = (to, from)
    where
      to : Memᴰ q (map place_of (pixels W)) → InPart (places_in W top) (maximal W top) q
      to l =
          let t = Memᴰ.of_map place_of (pixels W) l in
          let v = (in-pixels W).0 t.1 in
          let b = block_of W top v in
          let h = (holds b.1 (pixel-in I v)).1 b.2 in
          record { at = b.0; listed = b.1; has = (up_in (place_of b.0) (4 ^ exponent W top b.0) q).1 (omega (arith, h, t.2), omega (arith, h, t.2)) }

      from : InPart (places_in W top) (maximal W top) q → Memᴰ q (map place_of (pixels W))
      from i =
          let a = pixel-of i.listed i.has in
          let v : In W (a.row, a.col) = fits_all (exponent-fits W top (listed→ W top i.listed).0) (a.row, a.col) (lies i.listed i.has a) in
          rw (← a.is) (Memᴰ.map place_of ((in-pixels W).1 v))

  pixels-distinct : Ordered ◌≢◌ (map place_of (pixels W))
  pixels-distinct = distinct-map place_of (ordered-imp (λ x y. before-irrefl) (rows-ordered W.r0 W.c0 W.h W.w)) same
    where
      same : (x y : Px) → Memᴰ x (pixels W) → Memᴰ y (pixels W) → place_of x ≡ place_of y → x ≡ y
      same x y a b e =
          let o = place-one m x.0 x.1 y.0 y.1 (pixel-in I ((in-pixels W).0 a)) (pixel-in I ((in-pixels W).0 b)) e in
          ap₂ (λ (r c : ℕ). (r, c)) o.0 o.1

  module _ (test : ℕ → Bool) where
    pub any-areas : any (λ p. test (place p.0 p.1)) (pixels W) ≡ any (λ b. any test (up_from (place b.0 b.1) (4 ^ exponent W top b))) (maximal W top)
    any-areas = sym (any-map test place_of (pixels W)) ∙ any-parts (places_in W top) members test

    pub many-areas : how_many (λ p. test (place p.0 p.1)) (pixels W) ≡ sum (map (λ b. how_many test (up_from (place b.0 b.1) (4 ^ exponent W top b))) (maximal W top))
    many-areas =
        sym (many-map test place_of (pixels W))
        ∙ many-parts (places_in W top) members test pixels-distinct (ordered-imp (λ x y. before-irrefl) (listed-ordered W top)) (λ b n. up-distinct (place_of b) (4 ^ exponent W top b)) one
