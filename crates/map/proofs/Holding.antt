-- The record of a place and of a pixel, by its number: that of the record that holds it, or the number of records where none does. The tile of a pixel: its record, or itself alone.
-- Assumes nothing.
use mathlib.Core.Path.{◌≡◌, sym, ◌∙◌}
use mathlib.Core.Logic.{◌↔◌, ◌⊎◌, inl, inr}
use mathlib.Core.Bool.{Bool, true, false}
use mathlib.Core.List.{List, Memᴰ}
use Prim.Native.Nat.{ℕ, suc, ◌+◌, ◌/◌, ◌^◌, ◌≤◌, ◌<◌}
use native.Mathlib.Decide.{dec_lt}
use native.Mathlib.Nat.{div-one}
use native.Mathlib.Omega.{arith}
use lib.ListN.{length, get_or}
use borrow.Author.Tests.{lt-ltb, le-ltb}
use Rattle.lists.proofs.Laws.{refuted, stretch-of, stretch-begins, nth_of, nth-less, nth-get_or, before-none}
use Rattle.key.specs.Picture.{Pixel, place}
use Rattle.key.specs.Key.{pixel_key}
use Rattle.key.specs.Form.{form_of}
use Rattle.key.specs.Blocks.{Names, Among}
use Rattle.key.proofs.Laws.{one_block, block-lies, holds-key, holds_same, span-square, place-lt, place-one, pow-least}
use Rattle.map.specs.Spans.{form_exponent, holds}
use Rattle.map.specs.Sound.{Follow, Spaced}
use Rattle.map.specs.Records.{record_of, exponent_of, pixel_record, pixel_exponent}
use Rattle.map.specs.Runs.{Splits}
use Rattle.map.proofs.Tiles.{Record, SomeRecord, Holder, Free, tile_of, Tiling, pixel_tile}
use Rattle.map.proofs.Order.{spaced, record-at, holder, find, keys-apart, one-holder}
use Rattle.map.proofs.Tests.{exponent-is, holds-is}

-- ---- by the record's number

module _ (m : ℕ) (keys : List ℕ) (q : ℕ) where
  pub exponent-record : record_of m keys q < length keys → exponent_of m keys q ≡ form_exponent (form_of m (get_or keys (record_of m keys q) 0))
  unfolding exponent_of
  exponent-record l = rw (lt-ltb (record_of m keys q) (length keys) l)

  exponent-beyond : length keys ≤ record_of m keys q → exponent_of m keys q ≡ 0
  unfolding exponent_of
  exponent-beyond l = rw (le-ltb (record_of m keys q) (length keys) l)

  pub tile-record : record_of m keys q < length keys → tile_of m keys q ≡ record_of m keys q
  unfolding tile_of
  tile-record l = rw (lt-ltb (record_of m keys q) (length keys) l)

  tile-beyond : length keys ≤ record_of m keys q → tile_of m keys q ≡ length keys + q
  unfolding tile_of
  tile-beyond l = rw (le-ltb (record_of m keys q) (length keys) l)

  -- a number of a record is that of a place's tile exactly when it is that of its record
  pub record-tile : {n : ℕ} → n < length keys → (record_of m keys q ≡ n) ↔ (tile_of m keys q ≡ n)
  record-tile {n} l = (λ e. tile-record (omega arith) ∙ e, λ e. go e (dec_lt (record_of m keys q) (length keys)))
    where
      go : tile_of m keys q ≡ n → Dec (record_of m keys q < length keys) → record_of m keys q ≡ n
      go e (yes h) = sym (tile-record h) ∙ e
      go e (no h) = absurd (omega (arith, tile-beyond (omega arith)))

-- ---- of a map that may have gaps

module _ {m : ℕ} {keys : List ℕ} (F : Spaced m 0 keys) where
  -- `record_of` gives the one record that holds the place
  pub record_of_lem : {q : ℕ} (H : Holder m keys q) → record_of m keys q ≡ H.index
  unfolding record_of
  record_of_lem {q} H = stretch-begins test keys H.index (suc H.index) (stretch-of test (omega arith) H.is.within exactly) (omega arith)
    where
      test : ℕ → Bool
      test k = holds q (form_of m k)

      exactly : (n : ℕ) → n < length keys → (test (get_or keys n 0) ≡ true) ↔ ((H.index ≤ n) × (n < suc H.index))
      exactly n l = (to, from)
        where
          r : SomeRecord m keys n
          r = record-at F n l

          to : test (get_or keys n 0) ≡ true → (H.index ≤ n) × (n < suc H.index)
          to e = let d = one-holder F r.is H.is ((holds-is q r.is.names).0 e) H.has in omega arith

          from : (H.index ≤ n) × (n < suc H.index) → test (get_or keys n 0) ≡ true
          from h = let d : n ≡ H.index = omega arith in rw d ((holds-is q H.is.names).1 H.has)

  -- or the number of records
  pub record-none : {q : ℕ} → Free m keys q → record_of m keys q ≡ length keys
  unfolding record_of
  record-none {q} f = before-none (λ k. holds q (form_of m k)) keys none
    where
      none : (k : ℕ) → Memᴰ k keys → holds q (form_of m k) ≡ false
      none k l =
          let t = nth_of l in
          let r = record-at F t.0 (nth-less t.1) in
          refuted _ (λ e. f.none r.is ((holds-is q r.is.names).0 (rw (nth-get_or t.1) e)))

  module _ {q : ℕ} (H : Holder m keys q) where
    within : record_of m keys q < length keys
    within = omega (arith, record_of_lem H, H.is.within)

    pub exponent-of : exponent_of m keys q ≡ H.exponent
    exponent-of = exponent-record m keys q within ∙ rw (record_of_lem H) (exponent-is H.is.names)

    pub tile-of : tile_of m keys q ≡ H.index
    tile-of = tile-record m keys q within ∙ record_of_lem H

  module _ {q : ℕ} (f : Free m keys q) where
    pub exponent-none : exponent_of m keys q ≡ 0
    exponent-none = exponent-beyond m keys q (omega (arith, record-none f))

    pub tile-none : tile_of m keys q ≡ length keys + q
    tile-none = tile-beyond m keys q (omega (arith, record-none f))

  -- a place whose record has a number below Q is in that record, and so is one whose tile has
  module _ (q : ℕ) where
    held : (Free m keys q → ⊥) → Holder m keys q
    held n = go (find F q)
      where
        go : Holder m keys q ⊎ Free m keys q → Holder m keys q
        go (inl H) = H
        go (inr f) = absurd (n f)

    pub record-holder : record_of m keys q < length keys → Holder m keys q
    record-holder l = held (λ f. omega (arith, record-none f))

    pub tile-holder : tile_of m keys q < length keys → Holder m keys q
    tile-holder l = held (λ f. omega (arith, tile-none f))

  -- two places are in one record exactly when its span has both
  share : {q x : ℕ} (H : Holder m keys q) (K : Holder m keys x) → (H.index ≡ K.index) ↔ Among H.start (4 ^ H.exponent) x
  share {q} {x} H K = (to, λ h. one-holder F H.is K.is h K.has)
    where
      to : H.index ≡ K.index → Among H.start (4 ^ H.exponent) x
      to e =
          let same : Names m (get_or keys K.index 0) H.exponent H.start = rw e at H.is.names in
          let o = one_block same K.is.names in
          rw (o.0, o.1) K.has

  -- the pixels of a record are those of a square, from the pixel on at whose place its span starts
  pub record-square : {n i r c y x : ℕ} → Record m keys n i (place r c) → Pixel m r c → Pixel m y x
      → (pixel_record m keys y x ≡ n) ↔ (Among r (2 ^ i) y × Among c (2 ^ i) x)
  record-square {n} {i} {r} {c} {y} {x} R p v =
      let H : Holder m keys (place r c) = record { index = n; exponent = i; start = place r c; is = R; has = omega (arith, pow-least 3 i) } in
      let s = span-square R.names p v in (
        λ e. let K = record-holder (place y x) (rw e R.within) in s.0 ((share H K).0 (sym e ∙ record_of_lem K)),
        λ h. record_of_lem (record { index = n; exponent = i; start = place r c; is = R; has = s.1 h }),
      )

  -- a map is a tiling: a pixel that is in no record is a tile of its own
  pub tiles : Tiling m (pixel_tile m keys) (pixel_exponent m keys)
  tiles = record {
    small = λ {r} {c} p. small (find F (place r c));
    law = λ {r} {c} {y} {x} p q. law p q (find F (place r c)) (find F (place y x));
  }
    where
      small : {q : ℕ} → Holder m keys q ⊎ Free m keys q → exponent_of m keys q ≤ m
      small (inl H) = rw (exponent-of H) (block-lies H.is.names).small
      small (inr f) = rw (exponent-none f) (omega arith)

      law : {r c y x : ℕ} → Pixel m r c → Pixel m y x → Holder m keys (place r c) ⊎ Free m keys (place r c) → Holder m keys (place y x) ⊎ Free m keys (place y x)
          → (pixel_tile m keys r c ≡ pixel_tile m keys y x)
          ↔ ((r / 2 ^ pixel_exponent m keys r c ≡ y / 2 ^ pixel_exponent m keys r c) × (c / 2 ^ pixel_exponent m keys r c ≡ x / 2 ^ pixel_exponent m keys r c))
      law p q (inl H) (inl K) =
          let one = share H K in
          let agree = holds_same H.is.names p q H.has in
          rw (tile-of H, tile-of K, exponent-of H) (λ e. agree.0 (one.0 e), λ e. one.1 (agree.1 e))
      law p q (inl H) (inr f) =
          let agree = holds_same H.is.names p q H.has in
          rw (tile-of H, tile-none f, exponent-of H) (λ e. absurd (omega (arith, H.is.within)), λ e. absurd (f.none H.is (agree.1 e)))
      law {r} {c} {y} {x} p q (inr f) (inl K) =
          rw (tile-none f, tile-of K, exponent-none f, div-one r, div-one c, div-one y, div-one x)
          (λ e. absurd (omega (arith, K.is.within)), λ e. absurd (f.none K.is (rw (e.0, e.1) K.has)))
      law {r} {c} {y} {x} p q (inr f) (inr g) =
          rw (tile-none f, tile-none g, exponent-none f, div-one r, div-one c, div-one y, div-one x)
          (λ e. place-one m r c y x p q (omega arith), λ e. rw (e.0, e.1))

-- ---- of a whole map

module _ {m : ℕ} {keys : List ℕ} (F : Follow m 0 keys) where
  pub pixel-holder : {r c : ℕ} → Pixel m r c → Holder m keys (place r c)
  pixel-holder {r} {c} p = holder F (place r c) (omega arith) (place-lt p)

  -- the record of a pixel is the last whose key is not over the pixel's
  pub pixel-below : {r c n : ℕ} → Pixel m r c → Splits keys (pixel_key m r c + 1) n → n ≡ pixel_record m keys r c + 1
  pixel-below {r} {c} {n} p s = rw (record_of_lem (spaced F) H) (both (dec_lt H.index n) (dec_lt (H.index + 1) n))
    where
      H : Holder m keys (place r c)
      H = pixel-holder p

      own : Among (get_or keys H.index 0) (5 ^ H.exponent) (pixel_key m r c)
      own = (holds-key H.is.names p).0 H.has

      both : Dec (H.index < n) → Dec (H.index + 1 < n) → n ≡ H.index + 1
      both (yes l) (yes h) =
          let R = record-at (spaced F) (H.index + 1) (omega (arith, s.room)) in
          absurd (omega (arith, own, s.below (H.index + 1) h, keys-apart (spaced F) H.index (H.index + 1) H.is R.is (omega arith)))
      both (yes l) (no h) = omega (arith, l, h)
      both (no l) t = absurd (omega (arith, own, s.over H.index (omega (arith, l)) H.is.within))

  -- each pixel's tile is its record
  pub tile-whole : {r c : ℕ} → Pixel m r c → pixel_tile m keys r c ≡ pixel_record m keys r c
  tile-whole p = let H = pixel-holder p in tile-of (spaced F) H ∙ sym (record_of_lem (spaced F) H)

  pub tiling : Tiling m (pixel_record m keys) (pixel_exponent m keys)
  tiling = record {
    small = (tiles (spaced F)).small;
    law = λ p q. let t = (tiles (spaced F)).law p q in (λ e. t.0 (tile-whole p ∙ e ∙ sym (tile-whole q)), λ e. sym (tile-whole p) ∙ t.1 e ∙ tile-whole q);
  }
