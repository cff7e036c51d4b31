-- When a maximal block comes up, what is covered is what is out, and the block lies in a record handed out exactly when its corner is out. So the fold and the cells tell the same.
-- Assumes nothing.
use mathlib.Core.Path.{◌≡◌, refl}
use mathlib.Core.Logic.{◌↔◌, ◌⊎◌, inl, inr, ⊎_elim}
use mathlib.Core.Bool.{true}
use mathlib.Core.List.Memᴰ
use mathlib.Core.List.{List, [], ◌∷◌, ◌++◌, Memᴰ}
use Prim.Native.Nat.{ℕ, ◌≤◌, ◌<◌}
use native.Mathlib.Omega.{arith}
use lib.ListN.{length}
use Rattle.lists.specs.Lists.{Ordered}
use Rattle.lists.proofs.Laws.{ordered-front}
use Rattle.key.specs.Picture.{place, Px}
use Rattle.window.specs.declared.Window.{Window}
use Rattle.window.specs.Window.{In, Inside}
use Rattle.window.specs.Blocks.{maximal}
use Rattle.window.specs.Promises.{Before}
use Rattle.window.specs.Keys.{key_of}
use Rattle.window.proofs.Laws.{before-irrefl, listed-ordered, front-all}
use Rattle.map.specs.Sound.{Spaced}
use Rattle.map.proofs.Laws.{Holder, Free, pixel_tile, tiles, find, tile-of}
use Rattle.border.specs.Openings.{is_handed}
use Rattle.border.specs.Border.{Stated, Covered}
use Rattle.border.specs.Step.{Corner}
use Rattle.border.proofs.Gone.{handed_by}
use Rattle.border.proofs.Sweep.{Out, Now, out-larger}
use Rattle.border.proofs.Stays.{stated-as}
use Rattle.border.proofs.Handing.{Brought, listed-corner, corner-listed, skip-corner, handed-by, brought-free}
use Rattle.border.proofs.Covering.{covered-is}

-- the blocks up to b are maximal
module _ {W : Window} {top : ℕ} (before : List Px) (b : Px) (later : List Px) (split : maximal W top ≡ before ++ b ∷ later) where
  pub own-corner : Corner W top b
  own-corner = listed-corner (rw split (Memᴰ.append_right before (Memᴰ.head refl)))

  pub earlier-corner : (x : Px) → Memᴰ x before → Corner W top x
  earlier-corner x l = listed-corner (rw split (Memᴰ.append_left _ l))

  pub each-corner : (x : Px) → Memᴰ x (before ++ b ∷ []) → Corner W top x
  each-corner x l = ⊎_elim (earlier-corner x) (λ k. let e : x ≡ b = Memᴰ.eq_of_singleton k in rw e own-corner) (Memᴰ.append_cases before l)

module _ {m top : ℕ} {keys : List ℕ} (F : Spaced m 0 keys) {W : Window} (I : Inside m W) (small : top ≤ m)
    (before : List Px) (b : Px) (later : List Px) (split : maximal W top ≡ before ++ b ∷ later) where
  order : Ordered Before (before ++ b ∷ later)
  order = rw split at (listed-ordered W top)

  -- the blocks before b are those whose corner stands before b
  brought-out : {p : Px} → Brought m top keys W before (pixel_tile m keys p.0 p.1) → Out W top (pixel_tile m keys) b p
  brought-out o = record { at = o.at; inside = o.inside; early = ordered-front before later order o.listed; same = o.is }

  out-brought : {p : Px} → Out W top (pixel_tile m keys) b p → Brought m top keys W before (pixel_tile m keys p.0 p.1)
  out-brought o = record { at = o.at; inside = o.inside; listed = front-all before later order (rw split at (corner-listed top o.inside)) o.early; is = o.same }

  covered_out : {p : Px} → In W p → Covered m top keys W before p ↔ Out W top (pixel_tile m keys) b p
  covered_out v = let c = covered-is F I small before (earlier-corner before b later split) v in (λ h. brought-out (c.0 h), λ o. c.1 (out-brought o))

  covered-now : {p : Px} → In W p → Covered m top keys W (before ++ b ∷ []) p ↔ (Out W top (pixel_tile m keys) b p ⊎ Now W top (pixel_tile m keys) b p)
  covered-now {p} v = let c = covered-is F I small (before ++ b ∷ []) (each-corner before b later split) v in (λ h. to (c.0 h), λ o. c.1 (from o))
    where
      to : Brought m top keys W (before ++ b ∷ []) (pixel_tile m keys p.0 p.1) → Out W top (pixel_tile m keys) b p ⊎ Now W top (pixel_tile m keys) b p
      to o = ⊎_elim
          (λ l. inl (brought-out (record { at = o.at; inside = o.inside; listed = l; is = o.is })))
          (λ l. inr (record { at = o.at; inside = o.inside; block = Memᴰ.eq_of_singleton l; same = o.is }))
          (Memᴰ.append_cases before o.listed)

      from : Out W top (pixel_tile m keys) b p ⊎ Now W top (pixel_tile m keys) b p → Brought m top keys W (before ++ b ∷ []) (pixel_tile m keys p.0 p.1)
      from (inl o) = let r = out-brought o in record { at = r.at; inside = r.inside; listed = Memᴰ.append_left _ r.listed; is = r.is }
      from (inr n) = record { at = n.at; inside = n.inside; listed = Memᴰ.append_right before (Memᴰ.head n.block); is = n.same }

  -- so cells that are stated by what is covered are stated by what is out, before the block and after it
  pub stated-out : {cells : List ℕ} → Stated W (Covered m top keys W before) cells → Stated W (Out W top (pixel_tile m keys) b) cells
  stated-out = stated-as (λ p v. covered_out v)

  pub stated-now : {cells : List ℕ} → Stated W (λ p. Out W top (pixel_tile m keys) b p ⊎ Now W top (pixel_tile m keys) b p) cells → Stated W (Covered m top keys W (before ++ b ∷ [])) cells
  stated-now = stated-as (λ p v. let h = covered-now v in (h.1, h.0))

  pub skip-test : (is_handed m keys (handed_by m top keys W before) (key_of m top W b) ≡ true) ↔ Out W top (pixel_tile m keys) b b
  skip-test =
      let own = own-corner before b later split in
      let C = earlier-corner before b later split in
      let skip = skip-corner F I small before C own in
      let hand = handed-by F I small before C (pixel_tile m keys b.0 b.1) in
      (λ e. brought-out (hand.0 (skip.0 e).0).0, λ o. skip.1 (hand.1 (out-brought o, known own o (find F (place b.0 b.1))), out-larger I (tiles F) own o))
    where
      -- a corner in no record is a tile of its own, which no earlier block brings
      known : Corner W top b → Out W top (pixel_tile m keys) b b → Holder m keys (place b.0 b.1) ⊎ Free m keys (place b.0 b.1) → pixel_tile m keys b.0 b.1 < length keys
      known own o (inl H) = omega (arith, tile-of F H, H.is.within)
      known own o (inr f) = absurd (before-irrefl (ordered-front before later order (brought-free F I small own.inside f (out-brought o))) own.own)
