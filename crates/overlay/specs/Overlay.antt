-- Today's map over the season's baseline: what each operation answers, and every lent cell, on every input.
-- Assumes nothing.
use Rattle.std.specs.Prelude.{false, not, cond, List, [], ◌∷◌, ℕ, eqb, length, take, drop, Result, Ok, Err}
use Rattle.answers.specs.declared.Cause.{Cause}
use Rattle.answers.specs.declared.Cause.TheVariants.{OtherM, NoBlock}
use Rattle.answers.specs.declared.Refused.{Refused}
use Rattle.answers.specs.Refusals.{Refusal, refusal, refused, answer}
use Rattle.answers.specs.After.{After, after}
use Rattle.key.specs.Form.{form_of}
use Rattle.window.specs.declared.Window.{Window}
use Rattle.map.specs.Check.{map_refusals_in, map_refusals}
use Rattle.map.specs.Spans.{malformed}
use Rattle.map.specs.Runs.{run_of}
use Rattle.exist.specs.Exist.{exist_in}
use Rattle.report.specs.Report.{report_in}
use Rattle.select.specs.Select.{select_keys}
use Rattle.pieces.specs.Pair.{class_over_map}
use Rattle.exist.specs.declared.Existence.{Existence}
use Rattle.overlay.specs.declared.Layer.{Layer}
use Rattle.overlay.specs.declared.Layer.TheVariants.{Neither, Today, Baseline}
use Rattle.overlay.specs.declared.Unpaired.{Unpaired}
use Rattle.overlay.specs.declared.Viewed.{Viewed}
use Rattle.overlay.specs.declared.Viewed.TheVariants as part
use Rattle.overlay.specs.Select.{class_selection}

-- a refusal of one of the maps, or of neither
abbrev pub of_map : Layer → Refused → Unpaired
of_map map refused = record { map = map; refused = refused }

abbrev pub refuse_of : {A : Type 0} → Layer → Cause → ℕ → Result A Unpaired
refuse_of map cause place = Err (of_map map (refused cause place))

-- refusal 15: the two maps are of another m
unfoldable pub same_refusals : ℕ → ℕ → List Refusal
same_refusals m base_m = refusal (not (eqb m base_m)) OtherM 0 ∷ []

-- both maps, today's first, of either m, the keys and the number of classes: a refusal of today's, which may have gaps, one of the baseline, which may have none, or 15
unfoldable pub pairing : ℕ → List ℕ → ℕ → ℕ → List ℕ → ℕ → Result Unit Unpaired
pairing m keys classes base_m base base_classes =
    answer (refuse_of Today) (map_refusals_in false m keys classes)
    (answer (refuse_of Baseline) (map_refusals base_m base base_classes) (answer (refuse_of Neither) (same_refusals m base_m) (Ok tt)))

-- an answer behind that
unfoldable pub behind : {A : Type 0} → (Unpaired → A) → Result Unit Unpaired → A → A
behind refuse (Ok u) a = a
behind refuse (Err e) a = refuse e

-- what is answered of both maps: a refusal is of neither
abbrev pub of_both : {A : Type 0} → Result A Refused → Result A Unpaired
of_both (Ok a) = Ok a
of_both (Err e) = Err (of_map Neither e)

-- an outcome behind that: a refusal leaves the lent slices as they were, and otherwise it is told what `o` answers
abbrev pub over_pair : {A B S : Type 0} → (A → Result B Unpaired) → Result Unit Unpaired → S → After A S → After (Result B Unpaired) S
over_pair tell p lent o = behind (λ e. after (Err e) lent) p (after (tell o.answer) o.lent)

module _ (m : ℕ) (keys classes : List ℕ) (base_m : ℕ) (base base_classes : List ℕ) where
  -- exist, report and select of today's map, where places have the classes of both
  unfoldable pub exist_over : Window → ℕ → List ℕ → After (Result Existence Unpaired) (List ℕ)
  exist_over W class border =
      over_pair of_both (pairing m keys (length classes) base_m base (length base_classes)) border
      (exist_in false (class_over_map m keys classes base base_classes) m keys (length classes) W class border)

  unfoldable pub report_over : Window → List ℕ → List ℕ → After (Result ℕ Unpaired) (List ℕ × List ℕ)
  report_over W border out =
      over_pair of_both (pairing m keys (length classes) base_m base (length base_classes)) (border, out)
      (report_in false (class_over_map m keys classes base base_classes) m keys (length classes) W border out)

  unfoldable pub select_over : Window → ℕ → List ℕ → List ℕ → After (Result ℕ Unpaired) (List ℕ × List ℕ)
  select_over W class border out =
      over_pair of_both (pairing m keys (length classes) base_m base (length base_classes)) (border, out)
      (select_keys false (class_selection m (class_over_map m keys classes base base_classes) W class) m m keys (length classes) W border out)

-- ---- the viewer's part

-- refusal 27, where 3 would refuse the key
unfoldable pub block_refusals : ℕ → ℕ → List Refusal
block_refusals m key = refusal (malformed (form_of m key)) NoBlock 0 ∷ []

-- the records of today's that overlap the block of a key, or where there are none the baseline's
unfoldable pub records_over : ℕ → List ℕ → List ℕ → ℕ → Viewed
records_over m keys base key =
    let today = run_of m keys key in
    let under = run_of m base key in
    cond (eqb today.count 0) (part.Baseline under.first under.count) (part.Today today.first today.count)

unfoldable pub view_of : ℕ → List ℕ → ℕ → ℕ → List ℕ → ℕ → ℕ → Result Viewed Unpaired
view_of m keys classes base_m base base_classes key =
    behind Err (pairing m keys classes base_m base base_classes) (answer (refuse_of Neither) (block_refusals m key) (Ok (records_over m keys base key)))

-- the part itself, of the one slice of classes or the other
unfoldable pub part_in : List ℕ → List ℕ → Result Viewed Unpaired → List ℕ
part_in classes base_classes (Ok (part.Today first count)) = take count (drop first classes)
part_in classes base_classes (Ok (part.Baseline first count)) = take count (drop first base_classes)
part_in classes base_classes (Err e) = []
