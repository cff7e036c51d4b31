-- The part of a record in the window, as a product of two overlaps: rows and columns are tested apart, and the block around a pixel is an interval of each. A record in a block
-- that lies in the window is whole.
-- Assumes nothing.
use mathlib.Core.Path.{◌≡◌, refl, sym, ap, ap₂, ◌∙◌}
use mathlib.Core.Logic.{◌↔◌}
use mathlib.Core.Bool.{Bool, true, false, cond, ◌&&◌}
use mathlib.Core.List.{List, Memᴰ}
use Prim.Native.Nat.{ℕ, zero, suc, ◌+◌, ◌-◌, ◌*◌, ◌^◌, ◌≤◌, ◌<◌, min, max}
use native.Mathlib.Decide.{dec_le, dec_lt}
use native.Mathlib.Nat.{mul-le-mul}
use native.Mathlib.Omega.{arith}
use lib.Dec.{eqb}
use lib.ListN.{length, get_or}
use borrow.Author.Tests.{eqb-true, eq-eqb}
use Rattle.lists.specs.Lists.{up_from, how_many}
use Rattle.lists.proofs.Laws.{never, both, agree, up_none, up_next, many-empty, many-next, many-same}
use Rattle.key.specs.Picture.{place, Px}
use Rattle.key.specs.Form.{form_of}
use Rattle.key.specs.Blocks.{Names, Among}
use Rattle.key.proofs.Laws.{pow-least, pow-most, size-le}
use Rattle.window.specs.declared.Window.{Window}
use Rattle.window.specs.Window.{In, Inside}
use Rattle.window.specs.Blocks
use Rattle.window.specs.Blocks.{floor, pixels}
use Rattle.window.specs.Promises.{Same}
use Rattle.window.specs.Keys.{key_of}
use Rattle.window.proofs.Laws.{Fits, floor-le, floor-lt, floor-eq, same_div, fits-same, fits-down, exponent-fits, corner→same, pixel-in, key-named, rows-count, side-square, in-pixels}
use Rattle.map.specs.declared.Run.{Run}
use Rattle.map.specs.Spans.{form_exponent}
use Rattle.map.specs.Sound.{Spaced}
use Rattle.map.specs.Records.{pixel_record, pixel_exponent}
use Rattle.map.specs.Runs.{run_of}
use Rattle.map.proofs.Laws.{Holder, tiles, record-at, record_of_lem, exponent-record, tile-record, record-tile, reach-within, reach-beyond, exponent-is}
use Rattle.border.specs.Openings.{met}
use Rattle.border.specs.Step.{Corner}
use Rattle.border.proofs.Laws.{met-in, met-pixels}
use Rattle.totals.specs.Gather.{area, shared, clipped}

-- ---- an interval

module _ (f : ℕ → Bool) {b k : ℕ} (is : (x : ℕ) → (f x ≡ true) ↔ Among b k x) where
  -- of the n numbers from a on, as many pass as are among the k from b on
  up-count : (a n : ℕ) → how_many f (up_from a n) ≡ shared a n b k
  unfolding shared
  up-count a zero = rw (up_none a, many-empty f) (omega arith)
  up-count a (suc n) = rw (up_next a n, many-next f a (up_from (suc a) n)) (go (f a) refl (dec_le b a) (dec_lt a (b + k)) (up-count (suc a) n))
    where
      go : (t : Bool) → f a ≡ t → Dec (b ≤ a) → Dec (a < b + k) → {s : ℕ} → s ≡ shared (suc a) n b k → cond t (suc s) s ≡ shared a (suc n) b k
      go true e h l d = omega (arith, (is a).0 e)
      go false e (no h) l d = omega arith
      go false e (yes h) (no l) d = omega arith
      go false e (yes h) (yes l) d = never (sym ((is a).1 (omega arith)) ∙ e)

-- x has y's block of exponent e exactly when it is one of the block's numbers
floor-among : (e x y : ℕ) → (eqb (floor e x) (floor e y) ≡ true) ↔ Among (floor e y) (2 ^ e) x
floor-among e x y = (to, λ h. eq-eqb _ _ (floor-eq e y x h.least h.most))
  where
    to : eqb (floor e x) (floor e y) ≡ true → Among (floor e y) (2 ^ e) x
    to t = omega (arith, eqb-true (floor e x) (floor e y) t, floor-le e x, floor-lt e x)

-- ---- the record of a pixel

-- q has p's block of exponent e
abbrev in_block : ℕ → Px → Px → Bool
in_block e p q = eqb (floor e q.0) (floor e p.0) && eqb (floor e q.1) (floor e p.1)

in-block : (e : ℕ) (p q : Px) → (in_block e p q ≡ true) ↔ Same e p q
in-block e p q =
    let t = both (eqb (floor e q.0) (floor e p.0)) (eqb (floor e q.1) (floor e p.1)) in (
      λ h. record { row = sym (eqb-true _ _ (t.0 h).0); col = sym (eqb-true _ _ (t.0 h).1) },
      λ s. t.1 (eq-eqb _ _ (sym s.row), eq-eqb _ _ (sym s.col)),
    )

-- as many pixels of the window do as it shares with that block
block-count : (W : Window) (e : ℕ) (p : Px) → how_many (in_block e p) (pixels W) ≡ clipped W e p
unfolding clipped
block-count W e p = rows-count (around p.0) (around p.1) W.r0 W.c0 W.h W.w ∙ ap₂ ◌*◌ (along p.0 W.r0 W.h) (along p.1 W.c0 W.w)
  where
    around : ℕ → ℕ → Bool
    around y x = eqb (floor e x) (floor e y)

    along : (y a n : ℕ) → how_many (around y) (up_from a n) ≡ shared a n (floor e y) (2 ^ e)
    along y = up-count (around y) (λ x. floor-among e x y)

module _ {m : ℕ} {keys : List ℕ} (F : Spaced m 0 keys) {W : Window} (I : Inside m W) where
  -- the window's part of p's record, if it has one, is its part of p's block of that record's exponent
  pub area-around : {p : Px} → In W p → pixel_record m keys p.0 p.1 < length keys → area m keys W (pixel_record m keys p.0 p.1) ≡ clipped W (pixel_exponent m keys p.0 p.1) p
  unfolding area
  area-around {p} v l = many-same (pixels W) (λ q k. agree _ _ (same q ((in-pixels W).0 k))) ∙ block-count W (pixel_exponent m keys p.0 p.1) p
    where
      same : (q : Px) → In W q → (eqb (pixel_record m keys q.0 q.1) (pixel_record m keys p.0 p.1) ≡ true) ↔ (in_block (pixel_exponent m keys p.0 p.1) p q ≡ true)
      same q u =
          let one = (tiles F).law (pixel-in I v) (pixel-in I u) in
          let own = tile-record m keys (place p.0 p.1) l in
          let other = record-tile m keys (place q.0 q.1) l in
          let block = in-block (pixel_exponent m keys p.0 p.1) p q in
          (λ t. block.1 (same_div.1 (one.0 (own ∙ sym (other.0 (eqb-true _ _ t))))), λ t. eq-eqb _ _ (other.1 (sym (one.1 (same_div.0 (block.0 t))) ∙ own)))

  -- the same by the record's number
  pub area-at : {p : Px} {n : ℕ} → In W p → pixel_record m keys p.0 p.1 ≡ n → n < length keys → area m keys W n ≡ clipped W (form_exponent (form_of m (get_or keys n 0))) p
  area-at {p} {n} v e l =
      let h : pixel_record m keys p.0 p.1 < length keys = rw e l in
      rw (← e, ← exponent-record m keys (place p.0 p.1) h) (area-around v h)

-- ---- the records of a maximal block

-- of a block that lies in the window nothing is cut off
clipped-whole : {W : Window} {e : ℕ} {p : Px} → Fits W e p → clipped W e p ≡ 4 ^ e
unfolding clipped shared
clipped-whole {W} {e} {p} f = ap₂ ◌*◌ (omega arith) (omega arith) ∙ side-square e

module _ {m top : ℕ} {keys : List ℕ} (F : Spaced m 0 keys) {W : Window} (I : Inside m W) (small : top ≤ m) {b : Px} (C : Corner W top b) where
  abbrev found : Run
  found = run_of m keys (key_of m top W b)

  named : Names m (key_of m top W b) (Blocks.exponent W top b) (place b.0 b.1)
  named = key-named I small C.inside C.own

  -- where they reach no further than it, each lies in it, and so in the window
  pub area-inside : found.reach ≡ Blocks.exponent W top b → {n : ℕ} → Memᴰ n (met m keys (key_of m top W b)) → area m keys W n ≡ 4 ^ form_exponent (form_of m (get_or keys n 0))
  area-inside e {n} l =
      let q = (met-pixels F I small C n).0 l in
      let o = q.0 in
      let r = record-at F n q.1 in
      let h = reach-within F named e ((met-in m keys (key_of m top W b) n).0 l) r.is in
      let smaller : form_exponent (form_of m (get_or keys n 0)) ≤ Blocks.exponent W top b = rw (exponent-is r.is.names) ((size-le _ _).1 (omega arith)) in
      let s = corner→same W top C.inside o.inside (C.own ∙ sym o.block) in
      area-at F I o.inside ((record-tile m keys _ q.1).1 o.is) q.1 ∙ clipped-whole (fits-down smaller (fits-same s (exponent-fits W top C.inside)))

  -- one that reaches further is that of the corner
  pub area-corner : Blocks.exponent W top b < found.reach → area m keys W found.first ≡ clipped W found.reach b
  area-corner l =
      let A = reach-beyond F named l in
      let h : Among A.start (4 ^ found.reach) (place b.0 b.1) = omega (arith, A.around, pow-least 3 (Blocks.exponent W top b)) in
      let H : Holder m keys (place b.0 b.1) = record { index = found.first; exponent = found.reach; start = A.start; is = A.is; has = h } in
      area-at F I C.inside (record_of_lem F H) A.is.within ∙ ap (λ (e : ℕ). clipped W e b) (exponent-is A.is.names)

-- ---- what a program needs of it

pub shared-most : (a n b e : ℕ) → e ≤ 12 → shared a n b (2 ^ e) ≤ 4096
unfolding shared
shared-most a n b e h = omega (arith, pow-most 1 e h)

-- ---- what two stretches share, and what the window shares with a block

pub shared-is : (a n b k : ℕ) → shared a n b k ≡ min (a + n) (b + k) - max a b
unfolding shared
shared-is a n b k = refl

pub clipped-is : (W : Window) (e : ℕ) (p : Px) → clipped W e p ≡ shared W.r0 W.h (floor e p.0) (2 ^ e) * shared W.c0 W.w (floor e p.1) (2 ^ e)
unfolding clipped
clipped-is W e p = refl

pub clipped-most : (W : Window) (e : ℕ) (p : Px) → e ≤ 12 → clipped W e p ≤ 16777216
unfolding clipped
clipped-most W e p h = mul-le-mul (shared-most W.r0 W.h (floor e p.0) e h) (shared-most W.c0 W.w (floor e p.1) e h)
