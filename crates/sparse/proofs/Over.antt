-- A map over a baseline, both sound: what refusals 1 to 7 say is what 6 and 7 do. And over a baseline of one record it is a map with a background.
-- Assumes nothing.
use mathlib.Core.Path.{◌≡◌, sym, ◌∙◌}
use mathlib.Core.Bool.{false}
use mathlib.Core.List.{List, [], ◌∷◌}
use Prim.Native.Nat.{ℕ}
use native.Mathlib.Omega.{arith}
use lib.ListN.{length}
use Rattle.std.specs.Prelude.{Result, Ok}
use Rattle.answers.specs.declared.Refused.{Refused}
use Rattle.answers.specs.Refusals.{verdict}
use Rattle.answers.proofs.Laws.{tile-passed}
use Rattle.window.specs.declared.Window.{Window}
use Rattle.map.specs.Check.{map_refusals_in}
use Rattle.map.specs.Classes.{class_over}
use Rattle.map.specs.Sound.{SoundIn}
use Rattle.map.proofs.Laws.{sound-map}
use Rattle.used.specs.Used.{Usable, view_refusals, use_refusals_in, tiled_refusals}
use Rattle.used.proofs.Laws.{use-view, use-known, tiled-next}
use Rattle.exist.specs.Exist.{exist_in}
use Rattle.exist.proofs.Laws.{exist-maps}
use Rattle.report.specs.Report.{report_in}
use Rattle.report.proofs.Laws.{report-maps}
use Rattle.pieces.specs.Pair.{Pair, class_over_map}
use Rattle.pieces.proofs.Laws.{pair-today, one-pair, one-exists, one-totals}

module _ {m : ℕ} {keys : List ℕ} {classes : ℕ} {base : List ℕ} {beneath : ℕ} (P : Pair m keys classes base beneath) where
  module _ (W : Window) (cells : ℕ) {v : Result Unit Refused} (e : v ≡ verdict (view_refusals m W cells)) where
    -- what 6 and 7 say
    pub pair-view : {t : Result Unit Refused} → v ≡ t → verdict (use_refusals_in false m keys classes W cells) ≡ t
    pair-view d = use-view false m keys classes W cells ((sound-map m keys classes).1 (pair-today P)) ∙ sym e ∙ d

    -- blocks as large as the picture are refused by nothing else
    pub pair-tiled : {t : Result Unit Refused} → v ≡ t → verdict (tiled_refusals false m m keys classes W cells) ≡ t
    pair-tiled d = tiled-next false m m keys classes W cells ((tile-passed m m).1 (P.small, omega arith)) ∙ pair-view d

    pub pair-known : v ≡ Ok tt → Usable m m keys W cells
    pair-known d = use-known false m keys classes W cells (pair-view d)

-- where refusals 1 to 4 do not hold, the map is over a baseline of one record
module _ (m : ℕ) (keys classes : List ℕ) (e : verdict (map_refusals_in false m keys (length classes)) ≡ Ok tt) where
  sound : SoundIn false m keys (length classes)
  sound = (sound-map m keys (length classes)).0 e

  pub one-over : Pair m keys (length classes) (0 ∷ []) 1
  one-over = one-pair sound.sizes.small sound.sizes.most sound.records sound.sizes.same

  module _ (background : ℕ) (W : Window) (border : List ℕ) where
    pub one-exist : (class : ℕ) → exist_in false (class_over_map m keys classes (0 ∷ []) (background ∷ [])) m keys (length classes) W class border
        ≡ exist_in false (class_over background m keys classes) m keys (length classes) W class border
    one-exist class = exist-maps sound sound _ _ W class border (λ I. one-exists I keys classes background)

    pub one-report : (out : List ℕ) → report_in false (class_over_map m keys classes (0 ∷ []) (background ∷ [])) m keys (length classes) W border out
        ≡ report_in false (class_over background m keys classes) m keys (length classes) W border out
    one-report out = report-maps sound sound _ _ W border out (λ I. one-totals I keys classes background)
