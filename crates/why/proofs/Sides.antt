-- On which side of a window a record lies: the first that is true of all its pixels. A record that lies on a side shares no pixel with the window.
-- Assumes nothing.
use mathlib.Core.Path.{◌≡◌, refl, sym}
use mathlib.Core.Logic.{◌↔◌}
use mathlib.Core.Bool.{Bool, true, false}
use mathlib.Core.List.{List, Memᴰ}
use Prim.Native.Nat.{ℕ, ◌+◌, ◌^◌, ◌≤◌, ◌<◌}
use native.Mathlib.Omega.{arith}
use lib.Dec.{eqb, leb, ltb}
use borrow.Author.Tests.{leb-true, ltb-true, le-leb, lt-ltb, eqb-true, eq-eqb}
use Rattle.std.specs.Prelude.{Option, Some}
use Rattle.lists.specs.Lists.{all}
use Rattle.lists.proofs.Laws.{never, refuted, keep-in, keep-true, in-keep, all-is}
use Rattle.key.specs.Picture.{Pixel, Px}
use Rattle.window.specs.declared.Window.{Window}
use Rattle.window.specs.Window.{window, Inside}
use Rattle.window.specs.Blocks.{pixels}
use Rattle.window.proofs.Laws.{in-pixels, pixel-in}
use Rattle.map.specs.Records.{pixel_record}
use Rattle.border.specs.Promises.{Touches}
use Rattle.why.specs.declared.Side.{Side}
use Rattle.why.specs.Why.{pixels_of, is_north, is_south, is_west, is_east, first_side, lies_of}
use Rattle.why.specs.Promises.{EachPixel, AllNorth, AllSouth, AllWest, AllEast, FirstTrue, north, south, west, east, none}

-- ---- the pixels of a record

pub pixels-of : (m : ℕ) (keys : List ℕ) (n : ℕ) {p : Px} → Memᴰ p (pixels_of m keys n) ↔ (Pixel m p.0 p.1 × (pixel_record m keys p.0 p.1 ≡ n))
unfolding pixels_of
pixels-of m keys n {p} =
    let W : Window = window 0 0 (2 ^ m) (2 ^ m) in
    let test : Px → Bool = λ q. eqb (pixel_record m keys q.0 q.1) n in (
      λ l. let v = (in-pixels W).0 (keep-in test (pixels W) l) in (omega (arith, v), eqb-true (pixel_record m keys p.0 p.1) n (keep-true test (pixels W) l)),
      λ h. in-keep test ((in-pixels W).1 (omega (arith, h.0))) (eq-eqb (pixel_record m keys p.0 p.1) n h.1),
    )

-- what is asked of all of them, in words
pub all-pixels : (m : ℕ) (keys : List ℕ) (n : ℕ) (f : Px → Bool) {P : Px → Type 0} → ((p : Px) → (f p ≡ true) ↔ P p)
    → (all f (pixels_of m keys n) ≡ true) ↔ EachPixel m keys n P
all-pixels m keys n f means =
    let t = all-is f (pixels_of m keys n) in (
      λ e p v d. (means p).0 (t.0 e p ((pixels-of m keys n).1 (v, d))),
      λ h. t.1 (λ p l. let k = (pixels-of m keys n).0 l in (means p).1 (h p k.0 k.1)),
    )

-- ---- the first side that is true

fails : {P : Type 0} → (false ≡ true) ↔ P → ¬ P
fails h p = never (sym (h.1 p))

untrue : (b : Bool) {P : Type 0} → (b ≡ true) ↔ P → ¬ P → b ≡ false
untrue b h p = refuted b (λ e. p (h.0 e))

module _ {North South West East : Type 0} where
  pub first-true : (n s w e : Bool) → (n ≡ true) ↔ North → (s ≡ true) ↔ South → (w ≡ true) ↔ West → (e ≡ true) ↔ East → FirstTrue North South West East (first_side n s w e)
  unfolding first_side
  first-true true s w e a b c d = north (a.0 refl)
  first-true false true w e a b c d = south (fails a) (b.0 refl)
  first-true false false true e a b c d = west (fails a) (fails b) (c.0 refl)
  first-true false false false true a b c d = east (fails a) (fails b) (fails c) (d.0 refl)
  first-true false false false false a b c d = none (fails a) (fails b) (fails c) (fails d)

  -- and no other is
  pub true-first : (n s w e : Bool) → (n ≡ true) ↔ North → (s ≡ true) ↔ South → (w ≡ true) ↔ West → (e ≡ true) ↔ East
      → {l : Option Side} → FirstTrue North South West East l → l ≡ first_side n s w e
  unfolding first_side
  true-first n s w e a b c d (north p) = rw (a.1 p)
  true-first n s w e a b c d (south p q) = rw (untrue n a p, b.1 q)
  true-first n s w e a b c d (west p q t) = rw (untrue n a p, untrue s b q, c.1 t)
  true-first n s w e a b c d (east p q t u) = rw (untrue n a p, untrue s b q, untrue w c t, d.1 u)
  true-first n s w e a b c d (none p q t u) = rw (untrue n a p, untrue s b q, untrue w c t, untrue e d u)

-- ---- of all pixels of a record

pub at_most : (a b : ℕ) → (leb a b ≡ true) ↔ (a ≤ b)
at_most a b = (leb-true a b, le-leb a b)

below : (a b : ℕ) → (ltb a b ≡ true) ↔ (a < b)
below a b = (ltb-true a b, lt-ltb a b)

module _ (m : ℕ) (keys : List ℕ) (W : Window) (n : ℕ) where
  -- where it lies, the first true one of the four
  abbrev pub RecordLies : Option Side → Type 0
  RecordLies = FirstTrue (AllNorth m keys W n) (AllSouth m keys W n) (AllWest m keys W n) (AllEast m keys W n)

  norths : (all (is_north W) (pixels_of m keys n) ≡ true) ↔ AllNorth m keys W n
  norths = all-pixels m keys n (is_north W) (λ p. below p.0 W.r0)

  souths : (all (is_south W) (pixels_of m keys n) ≡ true) ↔ AllSouth m keys W n
  souths = all-pixels m keys n (is_south W) (λ p. at_most (W.r0 + W.h) p.0)

  wests : (all (is_west W) (pixels_of m keys n) ≡ true) ↔ AllWest m keys W n
  wests = all-pixels m keys n (is_west W) (λ p. below p.1 W.c0)

  easts : (all (is_east W) (pixels_of m keys n) ≡ true) ↔ AllEast m keys W n
  easts = all-pixels m keys n (is_east W) (λ p. at_most (W.c0 + W.w) p.1)

  pub lies-first : RecordLies (lies_of W (pixels_of m keys n))
  unfolding lies_of
  lies-first = first-true _ _ _ _ norths souths wests easts

  pub first-lies : {l : Option Side} → RecordLies l → l ≡ lies_of W (pixels_of m keys n)
  unfolding lies_of
  first-lies = true-first _ _ _ _ norths souths wests easts

  -- then it shares no pixel with the window
  pub side-apart : Inside m W → {side : Side} → RecordLies (Some side) → Touches m keys W n → ⊥
  side-apart I (north h) t = omega (arith, t.inside, h t.at (pixel-in I t.inside) t.is)
  side-apart I (south a h) t = omega (arith, t.inside, h t.at (pixel-in I t.inside) t.is)
  side-apart I (west a b h) t = omega (arith, t.inside, h t.at (pixel-in I t.inside) t.is)
  side-apart I (east a b d h) t = omega (arith, t.inside, h t.at (pixel-in I t.inside) t.is)
