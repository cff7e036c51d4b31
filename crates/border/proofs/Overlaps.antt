-- The records that overlap a maximal block are those of its pixels. Spans share a place exactly when blocks share a pixel.
-- Assumes nothing.
use mathlib.Core.Path.{◌≡◌, sym, ◌∙◌}
use mathlib.Core.Logic.{◌↔◌}
use mathlib.Core.Bool.{true}
use mathlib.Core.List.{List, Memᴰ}
use Prim.Native.Nat.{ℕ, max, ◌+◌, ◌^◌, ◌≤◌, ◌<◌}
use native.Mathlib.Decide.{dec_lt}
use native.Mathlib.Omega.{arith}
use lib.ListN.{length, get_or}
use Rattle.key.specs.Picture.{Pixel, place, Px}
use Rattle.key.specs.Form.{form_of}
use Rattle.key.specs.Blocks.{Names, Among}
use Rattle.key.proofs.Laws.{PixelAt, Covers, Stand, within as lies_in, around, after, before, block-lies, blocks-stand, holds_same, place-onto, pow-least, size-le}
use Rattle.window.specs.declared.Window.{Window}
use Rattle.window.specs.Window.{In, Inside}
use Rattle.window.specs.Blocks.{exponent, corner}
use Rattle.window.specs.Promises.{Same}
use Rattle.window.specs.Keys.{key_of}
use Rattle.window.proofs.Laws.{same_div, fits_all, exponent-fits, same→corner, corner→same, pixel-in, key-named}
use Rattle.map.specs.Spans.{holds, within}
use Rattle.map.specs.Sound.{Spaced}
use Rattle.map.specs.Records.{pixel_exponent}
use Rattle.map.specs.Runs.{run_of, BlockOf}
use Rattle.map.proofs.Laws.{Record, SomeRecord, Holder, pixel_tile, Overlap, Meets, record-at, apart, block-records, reach-is, tile-of, tile-holder, exponent-of, holds-is, within-is}
use Rattle.border.specs.Openings.{met}
use Rattle.border.specs.Step.{Corner, reach}
use Rattle.border.proofs.Fold.{met-in}

-- ---- the records of a block

-- tile n is that of a pixel of the block with corner b
pub record OfPixel (m top : ℕ) (keys : List ℕ) (W : Window) (b : Px) (n : ℕ) : Type 0 where
  pub at : Px
  pub inside : In W at
  pub block : corner W top at ≡ b
  pub is : pixel_tile m keys at.0 at.1 ≡ n

module _ {m top : ℕ} {keys : List ℕ} (F : Spaced m 0 keys) {W : Window} (I : Inside m W) (small : top ≤ m) {b : Px} (C : Corner W top b) where
  -- the block with corner b: its exponent, its first place, and what meets it
  abbrev i : ℕ
  i = exponent W top b

  abbrev s : ℕ
  s = place b.0 b.1

  named : Names m (key_of m top W b) i s
  named = key-named I small C.inside C.own

  meets : Meets m keys i s (run_of m keys (key_of m top W b)).first (run_of m keys (key_of m top W b)).count
  meets = block-records F named

  -- its span has the places of its pixels
  pub spans : {p : Px} → Pixel m p.0 p.1 → Among s (4 ^ i) (place p.0 p.1) ↔ Same i b p
  spans {p} v =
      let own : Among s (4 ^ i) s = omega (arith, pow-least 3 i) in
      let h = holds_same named (pixel-in I C.inside) v own in
      (λ l. same_div.1 (h.0 l), λ e. h.1 (same_div.0 e))

  block_same : {p : Px} → In W p → corner W top p ≡ b → Same i b p
  block_same v e = corner→same W top C.inside v (C.own ∙ sym e)

  -- by its key it has the window's pixels whose corner is b
  pub block-holds : {p : Px} → In W p → (holds (place p.0 p.1) (form_of m (key_of m top W b)) ≡ true) ↔ (corner W top p ≡ b)
  block-holds {p} v =
      let h = holds-is (place p.0 p.1) named in
      let k = spans (pixel-in I v) in
      (λ e. sym (same→corner W top C.inside (k.0 (h.0 e))) ∙ C.own, λ e. h.1 (k.1 (block_same v e)))

  -- a record that has a place of the block is that of one of its pixels
  shared : {n j t q : ℕ} → Record m keys n j t → Among s (4 ^ i) q → Among t (4 ^ j) q → OfPixel m top keys W b n
  shared {n} {j} {t} {q} R h k = go (place-onto m q (omega (arith, (block-lies named).span)))
    where
      go : PixelAt m q → OfPixel m top keys W b n
      go a =
          let p : Px = (a.row, a.col) in
          let same : Same i b p = (spans a.pixel).0 (rw a.is h) in
          let H : Holder m keys (place a.row a.col) = record { index = n; exponent = j; start = t; is = R; has = rw a.is k } in
          record {
            at = p;
            inside = fits_all (exponent-fits W top C.inside) p same;
            block = sym (same→corner W top C.inside same) ∙ C.own;
            is = tile-of F H;
          }

  pub met-pixels : (n : ℕ) → Memᴰ n (met m keys (key_of m top W b)) ↔ (OfPixel m top keys W b n × (n < length keys))
  met-pixels n = let h = met-in m keys (key_of m top W b) n in (λ l. to (h.0 l), λ o. h.1 (from o.0 o.1))
    where
      to : Among (run_of m keys (key_of m top W b)).first (run_of m keys (key_of m top W b)).count n → OfPixel m top keys W b n × (n < length keys)
      to h = (go (record-at F n (omega (arith, meets.room))), omega (arith, meets.room))
        where
          go : SomeRecord m keys n → OfPixel m top keys W b n
          go R =
              let o = (meets.exactly R.is).1 h in
              shared {q = max s R.start} R.is (omega (arith, pow-least 3 i)) (omega (arith, pow-least 3 R.exponent))

      from : OfPixel m top keys W b n → n < length keys → Among (run_of m keys (key_of m top W b)).first (run_of m keys (key_of m top W b)).count n
      from o l =
          let H = tile-holder F (place o.at.0 o.at.1) (rw o.is l) in
          let k = (spans (pixel-in I o.inside)).1 (block_same o.inside o.block) in
          let a = (meets.exactly H.is).0 (omega (arith, H.has)) in
          rw (sym o.is ∙ tile-of F H) a

  -- the first of them holds the corner, where a record does
  pub met-first : (H : Holder m keys s) → (run_of m keys (key_of m top W b)).first ≡ H.index
  met-first H = go (dec_lt first H.index)
    where
      first : ℕ
      first = (run_of m keys (key_of m top W b)).first

      a : Among first (run_of m keys (key_of m top W b)).count H.index
      a = (meets.exactly H.is).0 (omega (arith, H.has, pow-least 3 i))

      R : SomeRecord m keys first
      R = record-at F first (omega (arith, a, meets.room))

      o : Overlap s (4 ^ i) R.start (4 ^ R.exponent)
      o = (meets.exactly R.is).1 (omega (arith, a))

      go : Dec (first < H.index) → first ≡ H.index
      go (yes l) = absurd (omega (arith, apart F first H.index R.is H.is l, o, H.has))
      go (no g) = omega (arith, a, g)

  pub met-room : (run_of m keys (key_of m top W b)).first + (run_of m keys (key_of m top W b)).count ≤ length keys
  met-room = meets.room

  pub met-inside : (n : ℕ) → Memᴰ n (met m keys (key_of m top W b)) → n < length keys
  met-inside n l = omega (arith, (met-in m keys (key_of m top W b) n).0 l, meets.room)

  -- ---- the block, and the record of its corner

  pub block-key : BlockOf m (key_of m top W b) (exponent W top b)
  block-key = record { start = s; names = named }

  -- its records reach as far as the larger of the two
  pub far-is : (run_of m keys (key_of m top W b)).reach ≡ reach W top (pixel_exponent m keys) b
  far-is = reach-is keys named

  -- the block lies in record n exactly when that is its corner's and not smaller
  pub in-record : (n : ℕ) → n < length keys → (within (form_of m (key_of m top W b)) (form_of m (get_or keys n 0)) ≡ true)
      ↔ ((pixel_tile m keys b.0 b.1 ≡ n) × (exponent W top b ≤ pixel_exponent m keys b.0 b.1))
  in-record n l = (λ e. to (record-at F n l) e, λ e. from e.0 e.1)
    where
      to : SomeRecord m keys n → within (form_of m (key_of m top W b)) (form_of m (get_or keys n 0)) ≡ true
          → (pixel_tile m keys b.0 b.1 ≡ n) × (exponent W top b ≤ pixel_exponent m keys b.0 b.1)
      to R e =
          let h = (within-is named R.is.names).0 e in
          let H : Holder m keys s = record { index = n; exponent = R.exponent; start = R.start; is = R.is; has = omega (arith, pow-least 3 i) } in
          (tile-of F H, rw (exponent-of F H) ((size-le _ _).1 (omega arith)))

      from : pixel_tile m keys b.0 b.1 ≡ n → exponent W top b ≤ pixel_exponent m keys b.0 b.1
          → within (form_of m (key_of m top W b)) (form_of m (get_or keys n 0)) ≡ true
      from e h =
          let le : 4 ^ i ≤ 4 ^ H.exponent = (size-le i H.exponent).0 (rw (exponent-of F H) at h) in
          rw (sym e ∙ tile-of F H) ((within-is named H.is.names).1 (go le (blocks-stand named H.is.names)))
        where
          H : Holder m keys s
          H = tile-holder F s (rw e l)

          go : {a k : ℕ} → 4 ^ i ≤ 4 ^ H.exponent → Stand a i s k H.exponent H.start → Covers H.start (4 ^ H.exponent) s (4 ^ i)
          go le (lies_in p q) = omega arith
          go le (around g p k q) = p
          go le (after p q) = absurd (omega (arith, H.has, pow-least 3 i))
          go le (before p q) = absurd (omega (arith, H.has))
