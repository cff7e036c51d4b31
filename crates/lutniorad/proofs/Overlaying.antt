-- Exist, report and select on today's map over a baseline: when they are answered, by which numbers they are refused, what they then leave, and what an answer promises.
-- Assumes nothing.
use mathlib.Core.Path.{◌≡◌, refl, ◌∙◌}
use mathlib.Core.Logic.{◌↔◌}
use mathlib.Core.Bool.{false}
use mathlib.Core.List.{List}
use Prim.Native.Nat.{ℕ, ◌*◌, ◌≤◌}
use native.Mathlib.Omega.{arith}
use lib.ListN.{length, take}
use Rattle.std.specs.Prelude.{Result, Ok, Err}
use Rattle.answers.specs.declared.Refused.{Refused}
use Rattle.window.specs.declared.Window.{Window}
use Rattle.window.proofs.Laws.{key-block}
use Rattle.map.specs.Sound.{SoundIn, SoundMap}
use Rattle.used.specs.Promises.{AnswerableIn}
use Rattle.exist.specs.declared.Existence.{Existence}
use Rattle.exist.specs.Exist.{exist_in}
use Rattle.report.specs.Report.{report_in}
use Rattle.select.specs.Select.{select_keys}
use Rattle.sparse_select.proofs.Laws.{laid-inside, laid-most}
use Rattle.pieces.specs.Pair.{class_over_map}
use Rattle.overlay.specs.Select.{class_selection}
use Rattle.overlay.specs.Overlay.{of_both, exist_over, report_over, select_over}
use Rattle.overlay.proofs.Laws.{exist-over-is, report-over-is, select-over-is, selection-flat, class-blockwise, class-most, class-rising, class-makes, class-least}
use Rattle.lutniorad.specs.declared.Answer.{Answer}
use Rattle.lutniorad.specs.Numbers.{of_existence, of_count, refused_by, of_exist_over, of_count_over}
use Rattle.lutniorad.specs.Calls.{Check, SparseCheck, ExistIn, ReportIn, SelectIn, OverlayExist, OverlayReport, OverlaySelect}
use Rattle.lutniorad.specs.Promises.{RefusalLeaves, ExistPromiseBy, ReportPromiseBy}
use Rattle.lutniorad.specs.OverlayPromises.{Overlayable, OverlayRefusals, OverlaySelectPromise}
use Rattle.lutniorad.proofs.Crossing.{both-slices}
use Rattle.lutniorad.proofs.Answered.{exist-answered, exist-numbered, exist-kept}
use Rattle.lutniorad.proofs.Asked.{exist-promise, report-answered, report-numbered, report-kept, report-promise}
use Rattle.lutniorad.proofs.Selecting.{select-answered, select-numbered, select_kept, select-stand, select-laid}
use Rattle.lutniorad.proofs.Over.{Layers, OnBoth, over-inner, over-refusals, over-answered, over-numbered, over-15, over-kept}

-- how the answers of the three are said
abbrev existing : Layers (Result Existence Refused) Existence Answer
existing = record {
  say = of_exist_over;
  by = refused_by;
  tell = of_both;
  inner = of_existence;
  number = λ (x : Answer). x.refusal;
  saying = λ e. refl;
  telling = elim [ Ok v ↦ refl | Err e ↦ refl ];
  tells = λ map n p. refl;
}

abbrev counting : Layers (Result ℕ Refused) ℕ Answer
counting = record {
  say = of_count_over;
  by = refused_by;
  tell = of_both;
  inner = of_count;
  number = λ (x : Answer). x.refusal;
  saying = λ e. refl;
  telling = elim [ Ok n ↦ refl | Err e ↦ refl ];
  tells = λ map n p. refl;
}

-- where no lent slice was written, and the refusal is not 8
kept-all : {W : Window} {border out : List ℕ} {r : Answer} {border' out' : List ℕ} → ¬ (r.refusal ≡ 8) → ◌≡◌ {A = List ℕ × List ℕ} (border', out') (border, out)
    → RefusalLeaves W border out r border' out'
kept-all other e = let t = both-slices e in record { out-kept = t.1; border-spent = λ z. absurd (other z); border-kept = λ z. t.0 }

-- with blocks as large as the picture there is no cap to ask for
uncapped : {m : ℕ} {P Q : Type 0} → P ↔ ((m ≤ m) × Q) → P ↔ Q
uncapped t = (λ p. (t.0 p).1, λ q. t.1 (omega arith, q))

module _ (m : ℕ) (keys classes : List ℕ) (base_m : ℕ) (base base_classes : List ℕ) (W : Window) where
  abbrev rule : ℕ → ℕ
  rule = class_over_map m keys classes base base_classes

  -- ---- exist

  module _ (class : ℕ) (border : List ℕ) {r : Answer} {border' : List ℕ} (call : OverlayExist m keys classes base_m base base_classes W class border r border') where
    abbrev on-exist : OnBoth existing m keys classes base_m base base_classes border (exist_in false rule m keys (length classes) W class border) r border'
    on-exist = record { outcome = exist_over m keys classes base_m base base_classes W class border; is = exist-over-is m keys classes base_m base base_classes W class border; call = call }

    -- where both maps are sound it is exist on today's, by the classes of both
    pub overlay-exist-as : Overlayable m keys (length classes) base_m base (length base_classes)
        → ExistIn false (class_over_map m keys classes base base_classes) m keys classes W class border r border'
    overlay-exist-as O = over-inner on-exist O

    -- the checks of both maps come first, then 15
    pub overlay-exist-refusals : {s t : Answer} → SparseCheck m keys classes s → Check base_m base base_classes t → OverlayRefusals refused_by m base_m s t r
    overlay-exist-refusals a b = over-refusals on-exist a b

    pub overlay-exist-answered : (r.refusal ≡ 0) ↔ (Overlayable m keys (length classes) base_m base (length base_classes) × AnswerableIn false m keys (length classes) W (length border))
    overlay-exist-answered = over-answered on-exist (λ inner. exist-answered false rule m keys classes W class border inner)

    pub overlay-exist-numbered : r.refusal ≤ 15
    overlay-exist-numbered = over-numbered on-exist (omega arith) (λ inner. omega (arith, exist-numbered false rule m keys classes W class border inner))

    pub overlay-exist-15 : (r.refusal ≡ 15) ↔ (SoundIn false m keys (length classes) × SoundMap base_m base (length base_classes) × ¬ (m ≡ base_m))
    overlay-exist-15 = over-15 on-exist (λ inner e. omega (arith, exist-numbered false rule m keys classes W class border inner, e))

    pub overlay-exist-kept : (r.refusal ≡ 0 → ⊥) → border' ≡ border
    overlay-exist-kept = over-kept on-exist (λ other e. e) (λ inner. exist-kept false rule m keys classes W class border inner)

    pub overlay-exist-promise : r.refusal ≡ 0 → ExistPromiseBy (class_over_map m keys classes base base_classes) W class border r border'
    overlay-exist-promise z = exist-promise false rule m keys classes W class border (overlay-exist-as (overlay-exist-answered.0 z).0) z

  -- ---- report

  module _ (border out : List ℕ) {r : Answer} {border' out' : List ℕ} (call : OverlayReport m keys classes base_m base base_classes W border out r border' out') where
    abbrev on-report : OnBoth counting m keys classes base_m base base_classes (border, out) (report_in false rule m keys (length classes) W border out) r (border', out')
    on-report = record { outcome = report_over m keys classes base_m base base_classes W border out; is = report-over-is m keys classes base_m base base_classes W border out; call = call }

    pub overlay-report-as : Overlayable m keys (length classes) base_m base (length base_classes)
        → ReportIn false (class_over_map m keys classes base base_classes) m keys classes W border out r border' out'
    overlay-report-as O = over-inner on-report O

    pub overlay-report-refusals : {s t : Answer} → SparseCheck m keys classes s → Check base_m base base_classes t → OverlayRefusals refused_by m base_m s t r
    overlay-report-refusals a b = over-refusals on-report a b

    pub overlay-report-answered : (r.refusal ≡ 0) ↔ (Overlayable m keys (length classes) base_m base (length base_classes)
        × (AnswerableIn false m keys (length classes) W (length border) × (256 ≤ length out)))
    overlay-report-answered = over-answered on-report (λ inner. report-answered false rule m keys classes W border out inner)

    pub overlay-report-numbered : r.refusal ≤ 15
    overlay-report-numbered = over-numbered on-report (omega arith) (λ inner. omega (arith, report-numbered false rule m keys classes W border out inner))

    pub overlay-report-15 : (r.refusal ≡ 15) ↔ (SoundIn false m keys (length classes) × SoundMap base_m base (length base_classes) × ¬ (m ≡ base_m))
    overlay-report-15 = over-15 on-report (λ inner e. omega (arith, report-numbered false rule m keys classes W border out inner, e))

    pub overlay-report-kept : (r.refusal ≡ 0 → ⊥) → RefusalLeaves W border out r border' out'
    overlay-report-kept = over-kept on-report kept-all (λ inner. report-kept false rule m keys classes W border out inner)

    pub overlay-report-promise : r.refusal ≡ 0 → ReportPromiseBy (class_over_map m keys classes base base_classes) W border out r border' out'
    overlay-report-promise z = report-promise false rule m keys classes W border out (overlay-report-as (overlay-report-answered.0 z).0) z

  -- ---- select

  module _ (class : ℕ) (border out : List ℕ) {r : Answer} {border' out' : List ℕ} (call : OverlaySelect m keys classes base_m base base_classes W class border out r border' out') where
    abbrev chosen : List ℕ
    chosen = class_selection m rule W class

    abbrev on-select : OnBoth counting m keys classes base_m base base_classes (border, out) (select_keys false chosen m m keys (length classes) W border out) r (border', out')
    on-select = record { outcome = select_over m keys classes base_m base base_classes W class border out; is = select-over-is m keys classes base_m base base_classes W class border out; call = call }

    pub overlay-select-as : Overlayable m keys (length classes) base_m base (length base_classes)
        → SelectIn false (class_selection m (class_over_map m keys classes base base_classes) W class) m m keys classes W border out r border' out'
    overlay-select-as O = over-inner on-select O

    pub overlay-select-refusals : {s t : Answer} → SparseCheck m keys classes s → Check base_m base base_classes t → OverlayRefusals refused_by m base_m s t r
    overlay-select-refusals a b = over-refusals on-select a b

    pub overlay-select-answered : (r.refusal ≡ 0) ↔ (Overlayable m keys (length classes) base_m base (length base_classes)
        × (AnswerableIn false m keys (length classes) W (length border) × (length (class_selection m (class_over_map m keys classes base base_classes) W class) ≤ length out)))
    overlay-select-answered = over-answered on-select (λ inner. uncapped (select-answered false chosen m m keys classes W border out inner))

    pub overlay-select-numbered : r.refusal ≤ 15
    overlay-select-numbered =
        over-numbered on-select (omega arith)
        (λ inner. omega (arith, select-numbered false chosen m m keys classes W border out inner (omega arith)))

    pub overlay-select-15 : (r.refusal ≡ 15) ↔ (SoundIn false m keys (length classes) × SoundMap base_m base (length base_classes) × ¬ (m ≡ base_m))
    overlay-select-15 = over-15 on-select (λ inner e. omega (arith, select-numbered false chosen m m keys classes W border out inner (omega arith), e))

    pub overlay-select-kept : (r.refusal ≡ 0 → ⊥) → RefusalLeaves W border out r border' out'
    overlay-select-kept = over-kept on-select kept-all (λ inner. select_kept false chosen m m keys classes W border out inner)

    -- a cell for each pixel of the window is room enough
    pub overlay-select-enough : Overlayable m keys (length classes) base_m base (length base_classes) → AnswerableIn false m keys (length classes) W (length border) → W.h * W.w ≤ length out
        → r.refusal ≡ 0
    overlay-select-enough O A l = overlay-select-answered.1 (O, (A, omega (arith, class-most m rule class O.today.records A.inside)))

    pub overlay-select-promise : r.refusal ≡ 0 → OverlaySelectPromise (class_over_map m keys classes base base_classes) m W class border out (take r.first out') r border' out'
    overlay-select-promise z =
        let t = overlay-select-answered.0 z in
        let inner = overlay-select-as t.0 in
        let F = t.0.today.records in
        let I = t.1.0.inside in
        let B = class-blockwise m rule class in
        rw (select-stand false chosen m m keys classes W border out inner z ∙ selection-flat m rule class W) (record {
          states = select-laid false chosen m m keys classes W border out inner z F B (selection-flat m rule class W);
          inside = λ p x v l h. laid-inside {top = m} F I (omega arith) B p v l h;
          most = laid-most {top = m} F I (omega arith) B;
          in_order = refl;
          rising = λ key l. class-rising m rule class (key-block I (omega arith) l).3;
          makes = λ key i s l N. class-makes m rule class N;
          fewest = λ key i s l N blocks M. class-least m rule class N M;
        })
