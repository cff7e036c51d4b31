-- What has been handed out when some maximal blocks have been gone through: the records of their pixels, whichever were skipped; in the end, the records that overlap the window.
-- Assumes nothing.
use mathlib.Core.Path.{◌≡◌, refl, sym, ap}
use mathlib.Core.Logic.{◌↔◌, ◌⊎◌, inl, inr, ⊎_elim}
use mathlib.Core.Bool.{Bool, true}
use mathlib.Core.List.Memᴰ
use mathlib.Core.List.{List, [], map, Memᴰ}
use Prim.Native.Nat.{ℕ, ◌≤◌, ◌<◌}
use native.Mathlib.Omega.{arith}
use lib.ListN.{length, get_or}
use Rattle.lists.specs.Lists.{any}
use Rattle.lists.proofs.Laws.{any-has, has-any}
use Rattle.key.specs.Picture.{place, Px}
use Rattle.key.specs.Form.{form_of}
use Rattle.key.proofs.Laws.{place-one}
use Rattle.window.specs.declared.Window.{Window}
use Rattle.window.specs.Window.{In, Inside}
use Rattle.window.specs.Blocks.{exponent, corner, maximal}
use Rattle.window.specs.Keys.{key_of}
use Rattle.window.proofs.Laws.{same_up, corner-in, corner-corner, corner→same, listed→, →listed, pixel-in}
use Rattle.map.specs.Spans.{within}
use Rattle.map.specs.Sound.{Spaced}
use Rattle.map.specs.Records.{pixel_exponent}
use Rattle.map.proofs.Laws.{Holder, Free, pixel_tile, tiles, find, tile-of, tile-none, record-tile}
use Rattle.border.specs.Openings.{met, is_handed, opening, open_from, hands}
use Rattle.border.specs.Promises.{Overlaps}
use Rattle.border.specs.Step.{Corner}
use Rattle.border.proofs.Gone.{handed_by}
use Rattle.border.proofs.Sweep.{joined}
use Rattle.border.proofs.Overlaps.{met-pixels, in-record}
use Rattle.border.proofs.Fold.{hands-opens, opens-or-lies, opened-block}
use Rattle.border.proofs.Hands.{in-hands}

-- tile n is that of a pixel of one of the blocks with these corners
pub record Brought (m top : ℕ) (keys : List ℕ) (W : Window) (bs : List Px) (n : ℕ) : Type 0 where
  pub at : Px
  pub inside : In W at
  pub listed : Memᴰ (corner W top at) bs
  pub is : pixel_tile m keys at.0 at.1 ≡ n

pub listed-corner : {W : Window} {top : ℕ} {b : Px} → Memᴰ b (maximal W top) → Corner W top b
listed-corner {W} {top} l = let k = listed→ W top l in record { inside = k.0; own = k.1 }

pub corner-listed : {W : Window} (top : ℕ) {p : Px} → In W p → Memᴰ (corner W top p) (maximal W top)
corner-listed {W} top v = →listed W top (corner-in W top v) (corner-corner W top v)

module _ {m top : ℕ} {keys : List ℕ} (F : Spaced m 0 keys) {W : Window} (I : Inside m W) (small : top ≤ m) where
  module _ (bs : List Px) (C : (b : Px) → Memᴰ b bs → Corner W top b) where
    abbrev ks : List ℕ
    ks = map (key_of m top W) bs

    -- what is handed out is handed out by one of the blocks
    handed-brought : (n : ℕ) → Memᴰ n (handed_by m top keys W bs) → Brought m top keys W bs n × (n < length keys)
    handed-brought n l =
        let h = (in-hands (open_from m keys [] ks) n).0 (rw (hands-opens m keys [] ks) at l) in
        let t = opened-block m top keys W bs h.listed in
        let e : hands h.by ≡ met m keys (key_of m top W t.0) = ap hands t.2 in
        let o = (met-pixels F I small (C t.0 t.1) n).0 (rw e at h.hands) in
        (record { at = o.0.at; inside = o.0.inside; listed = rw o.0.block t.1; is = o.0.is }, o.1)

    -- a block lies in a record handed out exactly when its corner's record is handed out and not smaller
    pub skip-corner : {b : Px} → Corner W top b → (is_handed m keys (handed_by m top keys W bs) (key_of m top W b) ≡ true)
        ↔ (Memᴰ (pixel_tile m keys b.0 b.1) (handed_by m top keys W bs) × (exponent W top b ≤ pixel_exponent m keys b.0 b.1))
    unfolding is_handed
    skip-corner {b} K = (to, λ h. has-any test h.0 ((in-record F I small K _ (handed-brought _ h.0).1).1 (refl, h.1)))
      where
        test : ℕ → Bool
        test n = within (form_of m (key_of m top W b)) (form_of m (get_or keys n 0))

        to : any test (handed_by m top keys W bs) ≡ true
            → Memᴰ (pixel_tile m keys b.0 b.1) (handed_by m top keys W bs) × (exponent W top b ≤ pixel_exponent m keys b.0 b.1)
        to e =
            let t = any-has test (handed_by m top keys W bs) e in
            let r = (in-record F I small K t.0 (handed-brought t.0 t.1).1).0 t.2 in
            (Memᴰ.cast r.0 t.1, r.1)

    -- then the tile of each of its pixels is
    pub skip-pixel : {p : Px} → In W p → Corner W top (corner W top p) → is_handed m keys (handed_by m top keys W bs) (key_of m top W (corner W top p)) ≡ true
        → Memᴰ (pixel_tile m keys p.0 p.1) (handed_by m top keys W bs)
    skip-pixel v K e =
        let h = (skip-corner K).0 e in
        Memᴰ.cast (sym (joined I (tiles F) K.inside v (same_up h.1 (corner→same W top K.inside v K.own)))) h.0

    -- so the records of the blocks' pixels are handed out, whether the blocks were opened or skipped
    pub handed-by : (n : ℕ) → Memᴰ n (handed_by m top keys W bs) ↔ (Brought m top keys W bs n × (n < length keys))
    handed-by n = (handed-brought n, λ o. from o.0 o.1)
      where
        from : Brought m top keys W bs n → n < length keys → Memᴰ n (handed_by m top keys W bs)
        from o l = ⊎_elim opened (λ e. Memᴰ.cast (sym o.is) (skip-pixel o.inside K e)) (opens-or-lies m keys [] ks (Memᴰ.map (key_of m top W) o.listed))
          where
            K : Corner W top (corner W top o.at)
            K = C (corner W top o.at) o.listed

            opened : Memᴰ (opening m keys (key_of m top W (corner W top o.at))) (open_from m keys [] ks) → Memᴰ n (handed_by m top keys W bs)
            opened x =
                let own = (met-pixels F I small K n).1 (record { at = o.at; inside = o.inside; block = refl; is = o.is }, l) in
                let hand = (in-hands (open_from m keys [] ks) n).1 (record { by = _; listed = x; hands = own }) in
                rw (hands-opens m keys [] ks) hand

  -- in the end the records that overlap the window
  pub handed-all : (n : ℕ) → Memᴰ n (handed_by m top keys W (maximal W top)) ↔ Overlaps m keys W n
  handed-all n =
      let h = handed-by (maximal W top) (λ b l. listed-corner l) n in (
        λ l. let o = h.0 l in (record { at = o.0.at; inside = o.0.inside; is = (record-tile m keys _ o.1).1 o.0.is }, o.1),
        λ o. h.1 (record { at = o.0.at; inside = o.0.inside; listed = corner-listed top o.0.inside; is = (record-tile m keys _ o.1).0 o.0.is }, o.1),
      )

  -- a pixel in no record is a tile of its own: only its own block brings that
  pub brought-free : {bs : List Px} {p : Px} → In W p → Free m keys (place p.0 p.1) → Brought m top keys W bs (pixel_tile m keys p.0 p.1) → Memᴰ (corner W top p) bs
  brought-free {bs} {p} v f o = rw (go (find F (place o.at.0 o.at.1))) at o.listed
    where
      go : Holder m keys (place o.at.0 o.at.1) ⊎ Free m keys (place o.at.0 o.at.1) → o.at ≡ p
      go (inl H) = absurd (omega (arith, tile-of F H, tile-none F f, H.is.within, o.is))
      go (inr g) =
          let e = place-one m o.at.0 o.at.1 p.0 p.1 (pixel-in I o.inside) (pixel-in I v) (omega (arith, tile-none F f, tile-none F g, o.is)) in
          λ t. (e.0 t, e.1 t)
