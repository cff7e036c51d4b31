-- The laws of a window's pixels by their classes, under any rule that gives places classes: all 256 classes in one list, rules that agree, and the pixels block by block along the
-- maximal blocks.
-- Assumes nothing.
use mathlib.Core.Path.{◌≡◌, refl, sym, ap, ◌∙◌}
use mathlib.Core.Logic.{◌↔◌}
use mathlib.Core.Bool.{true}
use mathlib.Core.List.{List, map}
use Prim.Native.Nat.{ℕ, ◌+◌, ◌*◌, ◌^◌, ◌≤◌, ◌<◌}
use native.Mathlib.Omega.{arith}
use lib.Dec.{eqb}
use lib.ListN.{length, get_or, length-map}
use lib.Seq.{ext_get_or}
use borrow.Author.Tests.{eqb-true, eq-eqb}
use Rattle.lists.specs.Promises.{sum}
use Rattle.lists.specs.Lists.{up_from, any, how_many}
use Rattle.lists.proofs.Laws.{up_in, up-length, up-distinct, table-entry, map_same, any-has, has-any, any_same, many-same, many-all, many-most, each-once}
use Rattle.key.specs.Picture.{place, Px}
use Rattle.key.proofs.Laws.{place-lt}
use Rattle.window.specs.declared.Window.{Window}
use Rattle.window.specs.Window.{In, Inside}
use Rattle.window.specs.Blocks.{exponent, pixels, maximal}
use Rattle.window.specs.Rules.{ruled, exists_by, total_by, totals_by}
use Rattle.window.specs.SharingPromises.{Union, Intersection, Parted}
use Rattle.window.proofs.Keys.{pixel-in}
use Rattle.window.proofs.Counts.{pixels-length, in-pixels}
use Rattle.window.proofs.Parts.{counts-shared, counts-parted}
use Rattle.window.proofs.Areas.{any-areas, many-areas}

module _ (rule : ℕ → ℕ) (W : Window) where
  pub exists-by-means : (class : ℕ) → (exists_by rule W class ≡ true) ↔ ((p : Px) × In W p × (rule (place p.0 p.1) ≡ class))
  unfolding exists_by
  exists-by-means class = (
    λ e. let t = any-has (ruled rule class) (pixels W) e in (t.0, (in-pixels W).0 t.1, eqb-true _ _ t.2),
    λ t. has-any (ruled rule class) ((in-pixels W).1 t.1) (eq-eqb _ _ t.2),
  )

  pub total-by-is : (class : ℕ) → total_by rule W class ≡ how_many (ruled rule class) (pixels W)
  unfolding total_by
  total-by-is class = refl

  pub totals-by-length : length (totals_by rule W) ≡ 256
  unfolding totals_by
  totals-by-length = length-map (up_from 0 256) (total_by rule W) ∙ up-length 0 256

  pub totals-by-at : (class : ℕ) → class < 256 → get_or (totals_by rule W) class 0 ≡ total_by rule W class
  unfolding totals_by
  totals-by-at class l = table-entry (total_by rule W) 256 class refl l

  pub total-by-most : (class : ℕ) → total_by rule W class ≤ W.h * W.w
  unfolding total_by
  total-by-most class = omega (arith, many-most (ruled rule class) (pixels W), pixels-length W)

  -- they add up to the number of pixels
  pub totals-by-sum : ((q : ℕ) → rule q < 256) → sum (totals_by rule W) ≡ W.h * W.w
  unfolding totals_by total_by
  totals-by-sum small = each-once class (pixels W) (up-distinct 0 256) ∙ many-all (pixels W) (λ p l. listed p) ∙ pixels-length W
    where
      class : Px → ℕ
      class p = rule (place p.0 p.1)

      listed : (p : Px) → any (eqb (class p)) (up_from 0 256) ≡ true
      listed p = has-any (eqb (class p)) ((up_in 0 256 (class p)).1 (omega (arith, small (place p.0 p.1)))) (eq-eqb (class p) (class p) refl)

  -- what has each class's total in its cell is the list
  pub totals-by-are : {cells : List ℕ} → length cells ≡ 256 → ((k : ℕ) → k < 256 → get_or cells k 0 ≡ total_by rule W k) → cells ≡ totals_by rule W
  totals-by-are e h = ext_get_or 0 _ _ (e ∙ sym totals-by-length) (λ k l. h k (omega (arith, e)) ∙ sym (totals-by-at k (omega (arith, e))))

-- rules that give the window's pixels the same classes
module _ (rule other : ℕ → ℕ) {W : Window} (same : (p : Px) → In W p → rule (place p.0 p.1) ≡ other (place p.0 p.1)) where
  pub total-by-same : (class : ℕ) → total_by rule W class ≡ total_by other W class
  unfolding total_by
  total-by-same class = many-same (pixels W) (λ p l. ap (λ (k : ℕ). eqb k class) (same p ((in-pixels W).0 l)))

  pub totals-by-same : totals_by rule W ≡ totals_by other W
  unfolding totals_by
  totals-by-same = map_same (up_from 0 256) (λ class l. total-by-same class)

  pub exists-by-same : (class : ℕ) → exists_by rule W class ≡ exists_by other W class
  unfolding exists_by
  exists-by-same class = any_same (pixels W) (λ p l. ap (λ (k : ℕ). eqb k class) (same p ((in-pixels W).0 l)))

-- and rules that do so on the whole picture
module _ {m : ℕ} {W : Window} (I : Inside m W) {rule other : ℕ → ℕ} (same : (q : ℕ) → q < 4 ^ m → rule q ≡ other q) where
  pixels-same : (p : Px) → In W p → rule (place p.0 p.1) ≡ other (place p.0 p.1)
  pixels-same p v = same (place p.0 p.1) (place-lt (pixel-in I v))

  pub exists-same : (class : ℕ) → exists_by rule W class ≡ exists_by other W class
  exists-same = exists-by-same rule other pixels-same

  pub totals-same : totals_by rule W ≡ totals_by other W
  totals-same = totals-by-same rule other pixels-same

-- block by block
module _ {m : ℕ} {W : Window} (I : Inside m W) {top : ℕ} (small : top ≤ m) (rule : ℕ → ℕ) (class : ℕ) where
  pub exists-blocks : exists_by rule W class ≡ any (λ b. any (λ q. eqb (rule q) class) (up_from (place b.0 b.1) (4 ^ exponent W top b))) (maximal W top)
  unfolding exists_by
  exists-blocks = any-areas I small (λ q. eqb (rule q) class)

  pub total-blocks : total_by rule W class ≡ sum (map (λ b. how_many (λ q. eqb (rule q) class) (up_from (place b.0 b.1) (4 ^ exponent W top b))) (maximal W top))
  unfolding total_by
  total-blocks = many-areas I small (λ q. eqb (rule q) class)

-- windows that share pixels, and windows that part another
module _ (rule : ℕ → ℕ) (class : ℕ) where
  pub total-by-shared : {A B U I : Window} → Union A B U → Intersection A B I → total_by rule A class + total_by rule B class ≡ total_by rule U class + total_by rule I class
  unfolding total_by
  total-by-shared u i = counts-shared u i (ruled rule class)

  pub total-by-parted : {U : Window} {parts : List Window} → Parted U parts → sum (map (λ W. total_by rule W class) parts) ≡ total_by rule U class
  unfolding total_by
  total-by-parted t = counts-parted t (ruled rule class)
