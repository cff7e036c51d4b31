-- The view of a window: which records it has, and that it is one as a list and as a set. It suffices for the record of each pixel of the window, and for what passes a test that no
-- record outside passes.
-- Assumes nothing.
use mathlib.Core.Path.{◌≡◌, refl, sym, ap, ◌∙◌}
use mathlib.Core.Logic.{◌↔◌}
use mathlib.Core.Bool.{Bool, true}
use mathlib.Core.List.Memᴰ
use mathlib.Core.List.{List, Memᴰ}
use Prim.Native.Nat.{ℕ, ◌^◌, ◌≤◌, ◌<◌}
use native.Mathlib.Omega.{arith}
use lib.ListN.{length, get_or}
use Rattle.lists.specs.Lists.{up_from, any, keep, Ordered}
use Rattle.lists.proofs.Laws.{same-ordered, ordered-map, up_in, up-rising, keep-in, keep-true, in-keep, ordered-keep, keep-keep, any-has, has-any, any-keep}
use Rattle.key.specs.Picture.{place, Px}
use Rattle.window.specs.declared.Window.{Window}
use Rattle.window.specs.Window.{In, Inside}
use Rattle.window.specs.Blocks.{exponent, pixels}
use Rattle.window.proofs.Laws.{pixel-in, in-pixels, key-named}
use Rattle.map.specs.Sound.{Follow, Spaced}
use Rattle.map.specs.Records.{pixel_record}
use Rattle.map.proofs.Laws.{Record, Holder, Overlap, spaced, record-at, keys-rise, record_of_lem, record-tile, record-holder, pixel-holder, block-records, holds-is}
use Rattle.border.specs.Promises.{Touches}
use Rattle.border.specs.ViewPromises.{record_at, records_of, overlapping, view, SameView, InView}
use Rattle.border.specs.Step.{Corner}
use Rattle.border.proofs.Fold.{met-in}
use Rattle.border.proofs.Overlaps.{met-pixels}

-- ---- the records of the view

module _ {m : ℕ} {keys : List ℕ} (F : Spaced m 0 keys) (W : Window) (classes : List ℕ) where
  -- the test of its block is whether the window touches it
  overlapping-is : (n : ℕ) → n < length keys → (overlapping m W (record_at keys classes n) ≡ true) ↔ Touches m keys W n
  unfolding overlapping
  overlapping-is n l = (to, from)
    where
      to : overlapping m W (record_at keys classes n) ≡ true → Touches m keys W n
      to e =
          let t = any-has _ (pixels W) e in
          let R = record-at F n l in
          let has = (holds-is (place t.0.0 t.0.1) R.is.names).0 t.2 in
          record { at = t.0; inside = (in-pixels W).0 t.1; is = record_of_lem F (record { index = n; exponent = R.exponent; start = R.start; is = R.is; has = has }) }

      from : Touches m keys W n → overlapping m W (record_at keys classes n) ≡ true
      from t =
          let H = record-holder F (place t.at.0 t.at.1) (rw t.is l) in
          let e : n ≡ H.index = sym t.is ∙ record_of_lem F H in
          has-any _ ((in-pixels W).1 t.inside) (rw e ((holds-is (place t.at.0 t.at.1) H.is.names).1 H.has))

  -- records have the numbers below their count
  below : {n : ℕ} → Memᴰ n (up_from 0 (length keys)) → n < length keys
  below {n} l = omega (arith, (up_in 0 (length keys) n).0 l)

  numbered : {r : ℕ × ℕ} → Memᴰ r (records_of keys classes) → (n : ℕ) × (n < length keys) × (record_at keys classes n ≡ r)
  numbered l = let x = Memᴰ.of_map (record_at keys classes) (up_from 0 (length keys)) l in (x.0, below x.1, x.2)

  pub view-has : (r : ℕ × ℕ) → Memᴰ r (view m keys classes W) ↔ InView m keys classes W r
  unfolding view
  view-has r = (to, from)
    where
      to : Memᴰ r (keep (overlapping m W) (records_of keys classes)) → InView m keys classes W r
      to l =
          let x = numbered (keep-in (overlapping m W) (records_of keys classes) l) in
          let t = (overlapping-is x.0 x.1).0 (rw x.2 (keep-true (overlapping m W) (records_of keys classes) l)) in
          record { index = x.0; overlaps = (t, x.1); is = x.2 }

      from : InView m keys classes W r → Memᴰ r (keep (overlapping m W) (records_of keys classes))
      from v =
          let l = Memᴰ.map (record_at keys classes) ((up_in 0 (length keys) v.index).1 (omega (arith, v.overlaps.1))) in
          rw (← v.is) (in-keep (overlapping m W) l ((overlapping-is v.index v.overlaps.1).1 v.overlaps.0))

  view-ordered : Ordered (λ (a b : ℕ × ℕ). a.0 < b.0) (view m keys classes W)
  unfolding view
  view-ordered = ordered-keep (overlapping m W) (ordered-map (record_at keys classes) (up-rising 0 (length keys)) (λ x y l n h. (keys-rise F).rise x y h (below n)))

  -- ---- what no record outside passes

  module _ (t : ℕ × ℕ → Bool) (only : (n : ℕ) → n < length keys → t (record_at keys classes n) ≡ true → Touches m keys W n) where
    wider : (r : ℕ × ℕ) → Memᴰ r (records_of keys classes) → t r ≡ true → overlapping m W r ≡ true
    wider r l e = let x = numbered l in rw (← x.2) ((overlapping-is x.0 x.1).1 (only x.0 x.1 (rw x.2 e)))

    pub keep-view : keep t (view m keys classes W) ≡ keep t (records_of keys classes)
    unfolding view
    keep-view = keep-keep t (overlapping m W) (records_of keys classes) wider

    pub any-view : any t (view m keys classes W) ≡ any t (records_of keys classes)
    unfolding view
    any-view = any-keep t (overlapping m W) (records_of keys classes) wider

-- the window touches a record that overlaps one of its maximal blocks
pub touched : {m top : ℕ} {keys : List ℕ} → Spaced m 0 keys → {W : Window} → Inside m W → top ≤ m → {b : Px} → Corner W top b
    → {n j t : ℕ} → Record m keys n j t → Overlap (place b.0 b.1) (4 ^ exponent W top b) t (4 ^ j) → Touches m keys W n
touched {m} {keys = keys} F I small C {n} R o =
    let among = ((block-records F (key-named I small C.inside C.own)).exactly R).0 o in
    let x = (met-pixels F I small C n).0 ((met-in m keys _ n).1 among) in
    record { at = x.0.at; inside = x.0.inside; is = (record-tile m keys _ x.1).1 x.0.is }

-- ---- two maps

module _ {m : ℕ} {keys keys' classes classes' : List ℕ} {W : Window} where
  -- the same as a list exactly when it is the same as a set
  pub views-one : Spaced m 0 keys → Spaced m 0 keys' → SameView m keys classes keys' classes' W ↔ ((r : ℕ × ℕ) → InView m keys classes W r ↔ InView m keys' classes' W r)
  views-one F F' = (
    λ same r. (λ v. (has' r).0 (rw same.one at ((has r).1 v)), λ v. (has r).0 (rw (← same.one) at ((has' r).1 v))),
    λ same. record { one = same-ordered (λ x y a b. omega arith) (view-ordered F W classes) (view-ordered F' W classes') (elements same) },
  )
    where
      has : (r : ℕ × ℕ) → Memᴰ r (view m keys classes W) ↔ InView m keys classes W r
      has = view-has F W classes

      has' : (r : ℕ × ℕ) → Memᴰ r (view m keys' classes' W) ↔ InView m keys' classes' W r
      has' = view-has F' W classes'

      elements : ((r : ℕ × ℕ) → InView m keys classes W r ↔ InView m keys' classes' W r) → (r : ℕ × ℕ)
          → Memᴰ r (view m keys classes W) ↔ Memᴰ r (view m keys' classes' W)
      elements same r = (λ l. (has' r).1 ((same r).0 ((has r).0 l)), λ l. (has r).1 ((same r).1 ((has' r).0 l)))

  -- then each pixel of the window has the same record in both
  pub pixel-view : Follow m 0 keys → Spaced m 0 keys' → Inside m W → SameView m keys classes keys' classes' W → {p : Px} → In W p
      → record_at keys classes (pixel_record m keys p.0 p.1) ≡ record_at keys' classes' (pixel_record m keys' p.0 p.1)
  pixel-view F F' I same {p} v = sym x.is ∙ ap (record_at keys' classes') (sym (record_of_lem F' held))
    where
      n : ℕ
      n = pixel_record m keys p.0 p.1

      H : Holder m keys (place p.0 p.1)
      H = pixel-holder F (pixel-in I v)

      own : InView m keys classes W (record_at keys classes n)
      own = record { index = n; overlaps = (record { at = p; inside = v; is = refl }, omega (arith, record_of_lem (spaced F) H, H.is.within)); is = refl }

      x : InView m keys' classes' W (record_at keys classes n)
      x = ((views-one (spaced F) F').0 same (record_at keys classes n)).0 own

      key : get_or keys' x.index 0 ≡ get_or keys H.index 0
      key = ap (λ (r : ℕ × ℕ). r.0) x.is ∙ ap (λ (i : ℕ). get_or keys i 0) (record_of_lem (spaced F) H)

      -- the record of the same key has the same places
      held : Holder m keys' (place p.0 p.1)
      held = record { index = x.index; exponent = H.exponent; start = H.start; is = record { within = x.overlaps.1; names = rw key H.is.names }; has = H.has }
