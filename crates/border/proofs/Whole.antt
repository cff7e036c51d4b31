-- What more is known of a whole map. Every pixel is in a record, so the cells are stated by the records handed out alone, and each opening brings a record.
-- Assumes nothing.
use mathlib.Core.Path.{◌≡◌}
use mathlib.Core.Logic.{◌↔◌, inl}
use mathlib.Core.List.{List, [], ◌∷◌, ◌++◌, Memᴰ}
use Prim.Native.Nat.{ℕ, ◌≤◌}
use native.Mathlib.Omega.{arith}
use lib.ListN.{length}
use Rattle.std.specs.Prelude.{Option}
use Rattle.key.specs.Picture.{Px}
use Rattle.window.specs.declared.Window.{Window}
use Rattle.window.specs.Window.{In, Inside}
use Rattle.window.specs.Blocks.{maximal}
use Rattle.window.proofs.Laws.{pixel-in, key-named}
use Rattle.map.specs.Sound.{Follow}
use Rattle.map.proofs.Laws.{spaced, some-records, record_of_lem, pixel-holder}
use Rattle.border.specs.declared.Opened.{Opened}
use Rattle.border.specs.Openings.{Opening, opening, openings}
use Rattle.border.specs.Promises.{Touches, HandedOut, bringing, Enough}
use Rattle.border.specs.Border.{Stated, Handed, Covered}
use Rattle.border.specs.Step.{Corner, Step}
use Rattle.border.proofs.Gone.{handed_by, hands_by}
use Rattle.border.proofs.Stays.{stated-as}
use Rattle.border.proofs.Fold.{opening-block, handed-opened}
use Rattle.border.proofs.Hands.{bringing-all}
use Rattle.border.proofs.Handing.{listed-corner}
use Rattle.border.proofs.Covering.{brought-handed, covered-is}
use Rattle.border.proofs.Earlier.{earlier-corner, each-corner}
use Rattle.border.proofs.Making.{handed-step, stated-step}
use Rattle.border.proofs.Once.{hands-all}
use Rattle.border.proofs.Fewest.{fewest}

module _ {m top : ℕ} {keys : List ℕ} (F : Follow m 0 keys) {W : Window} (I : Inside m W) (small : top ≤ m) where
  -- ---- the cells

  -- an opened block covers nothing that is not handed out
  pub covered_whole : (bs : List Px) → ((b : Px) → Memᴰ b bs → Corner W top b) → {p : Px} → In W p → Covered m top keys W bs p ↔ Handed m keys (handed_by m top keys W bs) p
  covered_whole bs C v = (
    λ c. brought-handed (spaced F) I small bs C v (pixel-holder F (pixel-in I v)) ((covered-is (spaced F) I small bs C v).0 c),
    λ h. inl (rw (handed-opened m top keys W bs) at h),
  )

  -- so cells that are stated by the records handed out before a step are so after it, by those and the ones that the step hands out
  pub stays-whole : {b : Px} {cells border : List ℕ} {answer : Option Opened} → Step m top keys W b cells answer border → (before later : List Px) → maximal W top ≡ before ++ b ∷ later
      → Stated W (Handed m keys (handed_by m top keys W before)) cells → Stated W (Handed m keys (handed_by m top keys W before ++ hands_by answer)) border
  stays-whole {b} S before later split st =
      let c = stated-as (λ p v. let h = covered_whole before (earlier-corner before b later split) v in (h.1, h.0)) st in
      rw (← handed-step (spaced F) I small before b later split c S.is)
      (stated-as (λ p v. covered_whole (before ++ b ∷ []) (each-corner before b later split) v) (stated-step (spaced F) I small before b later split c S))

  -- ---- the openings

  pub hands-some : (o : Opening) → Memᴰ o (openings m top keys W) → 1 ≤ o.count
  unfolding opening
  hands-some o l =
      let t = opening-block m top keys W l in
      let C = listed-corner t.1 in
      rw t.2 (some-records F (key-named I small C.inside C.own))

  pub hands-whole : (n : ℕ) → Touches m keys W n ↔ HandedOut (openings m top keys W) n
  hands-whole n =
      let h = hands-all (spaced F) I small n in
      (λ t. let H = pixel-holder F (pixel-in I t.inside) in h.0 (t, omega (arith, H.is.within, record_of_lem (spaced F) H, t.is)), λ o. (h.1 o).0)

  pub all-bring : bringing (openings m top keys W) ≡ openings m top keys W
  all-bring = bringing-all (openings m top keys W) hands-some

  -- so the openings themselves are fewest
  pub fewest-whole : (s : List ℕ) → Enough m top keys W s → length (openings m top keys W) ≤ length s
  fewest-whole s E = rw (← all-bring) (fewest (spaced F) I small s E)
