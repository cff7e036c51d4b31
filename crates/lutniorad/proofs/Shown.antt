-- Calls on today's map over a baseline answer as those on any whole map that shows the same classes: on the baseline where today's has no record, and on today's where it is whole.
-- Assumes nothing.
use mathlib.Core.Path.{◌≡◌, refl, sym, ◌∙◌}
use mathlib.Core.List.{List, []}
use Prim.Native.Nat.{ℕ, ◌^◌, ◌<◌}
use native.Mathlib.Omega.{arith}
use lib.ListN.{length, take}
use Rattle.lists.proofs.Laws.{never}
use Rattle.key.specs.Picture.{place}
use Rattle.key.proofs.Laws.{place-lt}
use Rattle.window.specs.declared.Window.{Window}
use Rattle.window.proofs.Laws.{pixel-in, exists-same, totals-same}
use Rattle.map.specs.Sound.{ended, SoundMap}
use Rattle.map.specs.Classes.{class_in}
use Rattle.map.proofs.Laws.{whole-sparse}
use Rattle.exist.proofs.Laws.{exist-maps}
use Rattle.report.proofs.Laws.{report-maps}
use Rattle.pieces.specs.Pair.{class_over_map}
use Rattle.pieces.proofs.Laws.{over_none, over-hidden}
use Rattle.lutniorad.specs.declared.Answer.{Answer}
use Rattle.lutniorad.specs.Calls.{Exist, Report, Select, OverlayExist, OverlayReport, OverlaySelect}
use Rattle.lutniorad.specs.OverlayPromises.{Overlayable, SamePixels}
use Rattle.lutniorad.proofs.Crossing.{alike}
use Rattle.lutniorad.proofs.Selecting.{select-promise}
use Rattle.lutniorad.proofs.Overlaying.{overlay-exist-as, overlay-report-as, overlay-select-answered, overlay-select-promise}

module _ (m : ℕ) (keys classes base base_classes : List ℕ) (O : Overlayable m keys (length classes) m base (length base_classes)) (shown painted : List ℕ) (S : SoundMap m shown (length painted))
    (same : (q : ℕ) → q < 4 ^ m → class_over_map m keys classes base base_classes q ≡ class_in m shown painted q) (W : Window) where
  -- exist and report word for word
  pub overlay-exist-shows : (class : ℕ) (border : List ℕ) {r s : Answer} {border' border'' : List ℕ}
      → OverlayExist m keys classes m base base_classes W class border r border' → Exist m shown painted W class border s border'' → (r ≡ s) × (border' ≡ border'')
  overlay-exist-shows class border a b =
      alike (exist-maps O.today S _ _ W class border (λ I k. exists-same I same k)) (overlay-exist-as m keys classes m base base_classes W class border a O) b

  pub overlay-report-shows : (border out : List ℕ) {r s : Answer} {border' out' border'' out'' : List ℕ}
      → OverlayReport m keys classes m base base_classes W border out r border' out' → Report m shown painted W border out s border'' out''
      → (r ≡ s) × (◌≡◌ {A = List ℕ × List ℕ} (border', out') (border'', out''))
  overlay-report-shows border out a b =
      alike (report-maps O.today S _ _ W border out (λ I. totals-same I same)) (overlay-report-as m keys classes m base base_classes W border out a O) b

  -- select by its pixels: it may list them by other blocks
  pub overlay-select-shows : (class : ℕ) (border out other older : List ℕ) {r s : Answer} {border' out' other' older' : List ℕ}
      → OverlaySelect m keys classes m base base_classes W class border out r border' out' → r.refusal ≡ 0
      → Select m shown painted W class other older s other' older' → s.refusal ≡ 0
      → SamePixels m W (take r.first out') (take s.first older')
  overlay-select-shows class border out other older a z b y = record {
    same = λ p v.
        let over = (overlay-select-promise m keys classes m base base_classes W class border out a z).states.pixels p v in
        let plain = (select-promise m m shown painted W class other older b y).states.pixels p v in
        let I = ((overlay-select-answered m keys classes m base base_classes W class border out a).0 z).1.0.inside in
        let e = same (place p.0 p.1) (place-lt (pixel-in I v)) in
        (λ t. plain.0 (sym e ∙ over.1 t), λ t. over.0 (e ∙ plain.1 t));
  }

-- ---- where today's map has no record it is as on the baseline

module _ (m : ℕ) (base base_classes : List ℕ) (U : SoundMap m base (length base_classes)) where
  nothing : Overlayable m [] 0 m base (length base_classes)
  nothing = record {
    today = record { sizes = record { small = U.sizes.small; same = refl; some = λ e. never (sym e); most = omega arith }; records = ended };
    baseline = U;
    same-m = refl;
  }

  none-shows : (q : ℕ) → q < 4 ^ m → class_over_map m [] [] base base_classes q ≡ class_in m base base_classes q
  none-shows q l = over_none m base base_classes q

  module _ (W : Window) where
    pub overlay-exist-none : (class : ℕ) (border : List ℕ) {r s : Answer} {border' border'' : List ℕ}
        → OverlayExist m [] [] m base base_classes W class border r border' → Exist m base base_classes W class border s border'' → (r ≡ s) × (border' ≡ border'')
    overlay-exist-none = overlay-exist-shows m [] [] base base_classes nothing base base_classes U none-shows W

    pub overlay-report-none : (border out : List ℕ) {r s : Answer} {border' out' border'' out'' : List ℕ}
        → OverlayReport m [] [] m base base_classes W border out r border' out' → Report m base base_classes W border out s border'' out''
        → (r ≡ s) × (◌≡◌ {A = List ℕ × List ℕ} (border', out') (border'', out''))
    overlay-report-none = overlay-report-shows m [] [] base base_classes nothing base base_classes U none-shows W

    pub overlay-select-none : (class : ℕ) (border out other older : List ℕ) {r s : Answer} {border' out' other' older' : List ℕ}
        → OverlaySelect m [] [] m base base_classes W class border out r border' out' → r.refusal ≡ 0
        → Select m base base_classes W class other older s other' older' → s.refusal ≡ 0
        → SamePixels m W (take r.first out') (take s.first older')
    overlay-select-none = overlay-select-shows m [] [] base base_classes nothing base base_classes U none-shows W

-- ---- where it is whole it is as on today's

module _ (m : ℕ) (keys classes base base_classes : List ℕ) (S : SoundMap m keys (length classes)) (U : SoundMap m base (length base_classes)) where
  covering : Overlayable m keys (length classes) m base (length base_classes)
  covering = record { today = whole-sparse S; baseline = U; same-m = refl }

  whole-shows : (q : ℕ) → q < 4 ^ m → class_over_map m keys classes base base_classes q ≡ class_in m keys classes q
  whole-shows q l = over-hidden S.records classes S.sizes.same base base_classes l

  module _ (W : Window) where
    pub overlay-exist-whole : (class : ℕ) (border : List ℕ) {r s : Answer} {border' border'' : List ℕ}
        → OverlayExist m keys classes m base base_classes W class border r border' → Exist m keys classes W class border s border'' → (r ≡ s) × (border' ≡ border'')
    overlay-exist-whole = overlay-exist-shows m keys classes base base_classes covering keys classes S whole-shows W

    pub overlay-report-whole : (border out : List ℕ) {r s : Answer} {border' out' border'' out'' : List ℕ}
        → OverlayReport m keys classes m base base_classes W border out r border' out' → Report m keys classes W border out s border'' out''
        → (r ≡ s) × (◌≡◌ {A = List ℕ × List ℕ} (border', out') (border'', out''))
    overlay-report-whole = overlay-report-shows m keys classes base base_classes covering keys classes S whole-shows W

    pub overlay-select-whole : (class : ℕ) (border out other older : List ℕ) {r s : Answer} {border' out' other' older' : List ℕ}
        → OverlaySelect m keys classes m base base_classes W class border out r border' out' → r.refusal ≡ 0
        → Select m keys classes W class other older s other' older' → s.refusal ≡ 0
        → SamePixels m W (take r.first out') (take s.first older')
    overlay-select-whole = overlay-select-shows m keys classes base base_classes covering keys classes S whole-shows W
