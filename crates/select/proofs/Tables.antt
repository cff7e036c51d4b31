-- What select answers and leaves, by the verdict of its refusals and the room for its keys.
-- Assumes nothing.
use mathlib.Core.Path.{◌≡◌, refl, sym, ap, ◌∙◌}
use mathlib.Core.Bool.{Bool, true, false}
use mathlib.Core.List.{List, ◌++◌}
use Prim.Native.Nat.{ℕ, ◌+◌, ◌≤◌, ◌<◌}
use native.Mathlib.Omega.{arith}
use lib.ListN.{length, take, drop, replicate, length-take, length-replicate}
use Rattle.std.specs.Prelude.{Result, Ok, Err}
use Rattle.answers.specs.declared.Cause.TheVariants.{ShortRoom}
use Rattle.answers.specs.declared.Refused.{Refused}
use Rattle.answers.specs.Refusals.{refuse, verdict}
use Rattle.answers.specs.Cells.{Listed}
use Rattle.answers.specs.After.{after, tiled_for}
use Rattle.answers.proofs.Laws.{overwrite-part, room-short, room-done, listed-count, listed-all}
use Rattle.window.specs.declared.Window.{Window}
use Rattle.window.specs.Window.{Inside}
use Rattle.map.specs.Sound.{SoundMap}
use Rattle.map.specs.Promises.{Gapless}
use Rattle.used.specs.Used.{tiled_refusals, spent, used_in}
use Rattle.used.proofs.Laws.{spent-is, used-passed, tiled-cap, tiled-usable, used-tiled, used-within, tiled-gapless}
use Rattle.select.specs.Select.{select_keys, keys_into}

-- nothing here needs the border: its part for the window is filled at once
pub part-spent : (W : Window) (border part : List ℕ) → W.w ≤ length border → part ≡ replicate (length (take W.w border)) (W.r0 + W.h) → part ++ drop W.w border ≡ spent W border
part-spent W border part l same =
    let many : length (take W.w border) ≡ W.w = simp length-take (omega arith) in
    let stands = overwrite-part (replicate W.w (W.r0 + W.h)) border in
    rw (same, many) (rw length-replicate at stands ∙ sym (spent-is W border))

-- keys that are listed, or too many
module _ (ks out : List ℕ) where
  pub keys-short : {needed : ℕ} {out' : List ℕ} → needed ≡ length ks → length out < needed → out' ≡ out → after (refuse ShortRoom needed) out' ≡ keys_into ks out
  keys-short n l e = rw (n, e) (sym (room-short refuse (Ok (length ks)) ks out (omega (arith, n))))

  pub keys-done : {value : ℕ} {out' : List ℕ} → Listed 0 ks out value out' → length ks ≤ length out → after (Ok value) out' ≡ keys_into ks out
  keys-done L l = rw (listed-count L, listed-all L l) (sym (room-done refuse (Ok (length ks)) ks out l))

module _ (whole : Bool) (ks : List ℕ) (m top : ℕ) (keys : List ℕ) (classes : ℕ) (W : Window) (border out : List ℕ) where
  pub select-is : select_keys whole ks m top keys classes W border out
      ≡ tiled_for refuse m top (border, out) (used_in whole refuse (Ok (length ks)) ks m keys classes W border out)
  unfolding select_keys
  select-is = refl

  pub select-refused : {e : Refused} → verdict (tiled_refusals whole m top keys classes W (length border)) ≡ Err e
      → select_keys whole ks m top keys classes W border out ≡ after (Err e) (border, out)
  select-refused e = select-is ∙ used-tiled whole refuse (Ok (length ks)) ks m top keys classes W border out e

  -- with blocks no larger than the picture it is as without refusal 17
  pub select-within : top ≤ m → select_keys whole ks m top keys classes W border out ≡ used_in whole refuse (Ok (length ks)) ks m keys classes W border out
  select-within cap = select-is ∙ used-within whole refuse (Ok (length ks)) ks m top keys classes W border out cap

  module _ (e : verdict (tiled_refusals whole m top keys classes W (length border)) ≡ Ok tt) {left : List ℕ} (d : left ≡ spent W border) where
    pub select-listed : {r : Result ℕ Refused} {out' : List ℕ} → after r out' ≡ keys_into ks out → after r (left, out') ≡ select_keys whole ks m top keys classes W border out
    select-listed t =
        used-passed whole refuse (Ok (length ks)) ks m keys classes W border out (tiled-usable whole m top keys classes W (length border) e) d t
        ∙ sym (select-within (tiled-cap whole m top keys classes W (length border) e))

-- on a map whose gaps are not refused keys that are the same where it is sound, the cap no larger than m and the window inside are selected alike, whether it is to be whole or not
pub select-gapless : {m : ℕ} {keys : List ℕ} {classes : ℕ} → Gapless m keys classes → (ks ks' : List ℕ) (top : ℕ) (W : Window) (border out : List ℕ)
    → (SoundMap m keys classes → top ≤ m → Inside m W → ks ≡ ks')
    → select_keys false ks m top keys classes W border out ≡ select_keys true ks' m top keys classes W border out
unfolding select_keys
select-gapless G ks ks' top W border out h =
    tiled-gapless G refuse _ _ _ _ top W border out (λ S cap I. let e = h S cap I in (ap (λ (xs : List ℕ). Ok (length xs)) e, e))
