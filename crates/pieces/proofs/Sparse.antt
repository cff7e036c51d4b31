-- A map with gaps is one over a baseline of one record, the whole picture in the background's class. And over a whole map nothing of a background is seen in a window.
-- Assumes nothing.
use mathlib.Core.Path.{◌≡◌, refl, sym, ap, ◌∙◌}
use mathlib.Core.Bool.{false}
use mathlib.Core.List.{List, [], ◌∷◌}
use Prim.Native.Nat.{ℕ, ◌^◌, ◌≤◌, ◌<◌}
use native.Mathlib.Omega.{arith}
use lib.ListN.{length, get_or}
use Rattle.lists.proofs.Laws.{never}
use Rattle.key.proofs.Laws.{whole-named}
use Rattle.window.specs.declared.Window.{Window}
use Rattle.window.specs.Window.{Inside}
use Rattle.window.specs.Rules.{exists_by, totals_by}
use Rattle.window.proofs.Laws.{exists-same, totals-same}
use Rattle.map.specs.Sound.{Follow, full, next, Spaced, SoundIn, SoundMap}
use Rattle.map.specs.Records.{record_of}
use Rattle.map.specs.Classes.{class_over, class_in}
use Rattle.map.proofs.Laws.{spaced, holder, class-held, over-whole}
use Rattle.pieces.specs.Pair.{Pair, class_over_map}

-- both maps are sound, the one under the other without gaps
pub pair-sound : {m : ℕ} {keys : List ℕ} {classes : ℕ} {base : List ℕ} {beneath : ℕ} → SoundIn false m keys classes → SoundMap m base beneath → Pair m keys classes base beneath
pair-sound S U = record {
  small = S.sizes.small;
  few = S.sizes.most;
  under_few = U.sizes.most;
  today = S.records;
  under = U.records;
  classed = S.sizes.same;
  under_classed = U.sizes.same;
}

pub pair-today : {m : ℕ} {keys : List ℕ} {classes : ℕ} {base : List ℕ} {beneath : ℕ} → Pair m keys classes base beneath → SoundIn false m keys classes
pair-today P = record { sizes = record { small = P.small; same = P.classed; some = λ e. never (sym e); most = P.few }; records = P.today }

-- key 0 is a complete map
pub one-record : (m : ℕ) → Follow m 0 (0 ∷ [])
one-record m = next {end = 4 ^ m} (whole-named m) (omega arith) (full refl)

pub one-pair : {m : ℕ} {keys : List ℕ} {classes : ℕ} → m ≤ 12 → length keys ≤ 65536 → Spaced m 0 keys → length keys ≡ classes → Pair m keys classes (0 ∷ []) 1
one-pair {m} a b F e = record { small = a; few = b; under_few = omega arith; today = F; under = one-record m; classed = e; under_classed = refl }

-- each of its places has the background's class
one_class : (m background : ℕ) {q : ℕ} → q < 4 ^ m → class_in m (0 ∷ []) (background ∷ []) q ≡ background
one_class m background {q} l =
    let H = holder (one-record m) q (omega arith) l in
    let e : H.index ≡ 0 = omega (arith, H.is.within) in
    class-held (spaced (one-record m)) (background ∷ []) refl 0 H ∙ rw e

pub over-one : (m : ℕ) (keys classes : List ℕ) (background : ℕ) {q : ℕ} → q < 4 ^ m
    → class_over_map m keys classes (0 ∷ []) (background ∷ []) q ≡ class_over background m keys classes q
unfolding class_over_map
over-one m keys classes background {q} l = ap (λ (b : ℕ). get_or classes (record_of m keys q) b) (one_class m background l)

-- a map of no record hides nothing
pub over_none : (m : ℕ) (base base_classes : List ℕ) (q : ℕ) → class_over_map m [] [] base base_classes q ≡ class_in m base base_classes q
unfolding class_over_map
over_none m base base_classes q = refl

-- a whole map hides what is under it
pub over-hidden : {m : ℕ} {keys : List ℕ} → Follow m 0 keys → (classes : List ℕ) → length keys ≡ length classes → (base base_classes : List ℕ) {q : ℕ} → q < 4 ^ m
    → class_over_map m keys classes base base_classes q ≡ class_in m keys classes q
unfolding class_over_map
over-hidden {m} F classes n base base_classes {q} l = over-whole F classes n (class_in m base base_classes q) l

-- so a window over the baseline of one record is one of the map with gaps
module _ {m : ℕ} {W : Window} (I : Inside m W) (keys classes : List ℕ) (background : ℕ) where
  pub one-exists : (k : ℕ) → exists_by (class_over_map m keys classes (0 ∷ []) (background ∷ [])) W k ≡ exists_by (class_over background m keys classes) W k
  one-exists k = exists-same I (λ q l. over-one m keys classes background l) k

  pub one-totals : totals_by (class_over_map m keys classes (0 ∷ []) (background ∷ [])) W ≡ totals_by (class_over background m keys classes) W
  one-totals = totals-same I (λ q l. over-one m keys classes background l)

-- ---- a whole map, over any background

module _ {m : ℕ} {keys : List ℕ} (F : Follow m 0 keys) (classes : List ℕ) (n : length keys ≡ length classes) {W : Window} (I : Inside m W) (background : ℕ) where
  pub exists-whole : (k : ℕ) → exists_by (class_over background m keys classes) W k ≡ exists_by (class_in m keys classes) W k
  exists-whole k = exists-same I (λ q l. over-whole F classes n background l) k

  pub totals-whole : totals_by (class_over background m keys classes) W ≡ totals_by (class_in m keys classes) W
  totals-whole = totals-same I (λ q l. over-whole F classes n background l)
