-- Totals gathered from different records count each pixel once. So no sum passes the number of the window's pixels, and records that have all pixels give the totals. And totals of
-- windows that share pixels, or that part another, add up.
-- Assumes nothing.
use mathlib.Core.Path.{◌≡◌, refl, sym, ◌∙◌}
use mathlib.Core.Logic.{◌≢◌}
use mathlib.Core.Bool.{Bool, true, false}
use mathlib.Core.List.{List, [], ◌∷◌, ◌++◌, append_assoc, map, Memᴰ}
use Prim.Native.Nat.{ℕ, ◌+◌, ◌*◌, ◌≤◌, ◌<◌}
use native.Mathlib.Omega.{arith}
use lib.Dec.{eqb}
use lib.ListN.{length, get_or, replicate, length-set, length-replicate, get_or-replicate}
use lib.Seq.{get_or-set_same, get_or-set_other, ext_get_or}
use borrow.Author.Tests.{eqb-true, eqb-false, eq-eqb}
use Rattle.lists.specs.Promises.{sum}
use Rattle.lists.specs.Lists.{any, keep, Ordered, how_many}
use Rattle.lists.proofs.Laws.{agree, ordered-part, keep-empty, keep_taken, keep-passed, keep-true}
use Rattle.lists.proofs.Laws.{in-keep, ordered-keep, any-has, has-any, many-same, many-most, sum-none, sum-next, each-once}
use Rattle.key.specs.Picture.{Px}
use Rattle.window.specs.declared.Window.{Window}
use Rattle.window.specs.Window.{In, Inside}
use Rattle.window.specs.Blocks.{pixels}
use Rattle.window.specs.SharingPromises.{Union, Intersection, Parted}
use Rattle.window.proofs.Laws.{pixels-length, in-pixels, total-by-is, totals-by-length, totals-by-at, total-by-most, totals-by-sum, total-by-shared, total-by-parted}
use Rattle.map.specs.Sound.{Follow}
use Rattle.map.specs.Records.{record_of, pixel_record}
use Rattle.map.specs.Classes.{classed, class_in}
use Rattle.map.proofs.Laws.{spaced}
use Rattle.border.specs.Openings.{openings, all_hands}
use Rattle.border.proofs.Laws.{in-hands, hands-whole, records-once}
use Rattle.totals.specs.Totals.{total, totals}
use Rattle.totals.specs.Gather.{area, added, gathered}

module _ (m : ℕ) (keys classes : List ℕ) (W : Window) where
  -- ---- the totals

  pub totals-length : length (totals m keys classes W) ≡ 256
  totals-length = totals-by-length (class_in m keys classes) W

  pub totals-at : (k : ℕ) → k < 256 → get_or (totals m keys classes W) k 0 ≡ total m keys classes W k
  totals-at = totals-by-at (class_in m keys classes) W

  pub total-most : (k : ℕ) → total m keys classes W k ≤ W.h * W.w
  total-most = total-by-most (class_in m keys classes) W

  -- they add up to the number of pixels
  pub totals-sum : ((n : ℕ) → get_or classes n 0 < 256) → sum (totals m keys classes W) ≡ W.h * W.w
  totals-sum small = totals-by-sum (class_in m keys classes) W (λ q. small (record_of m keys q))

  -- ---- records, gathered

  pub gathered-append : (ns ns' cells : List ℕ) → gathered m keys classes W (ns ++ ns') cells ≡ gathered m keys classes W ns' (gathered m keys classes W ns cells)
  unfolding gathered
  gathered-append [] ns' cells = refl
  gathered-append (n ∷ ns) ns' cells = gathered-append ns ns' (added m keys classes W n cells)

  pub gathered_next : (ns : List ℕ) (n : ℕ) (cells : List ℕ) → gathered m keys classes W (ns ++ n ∷ []) cells ≡ added m keys classes W n (gathered m keys classes W ns cells)
  unfolding gathered
  gathered_next ns n cells = gathered-append ns (n ∷ []) cells

  -- a record adds to the cell of its class, and to no other
  module _ (n : ℕ) (cells : List ℕ) where
    added-length : length (added m keys classes W n cells) ≡ length cells
    unfolding added
    added-length = length-set cells _ _

    added-same : (k : ℕ) → k < length cells → get_or classes n 0 ≡ k → get_or (added m keys classes W n cells) k 0 ≡ get_or cells k 0 + area m keys W n
    unfolding added
    added-same k l e = rw e (get_or-set_same cells k _ 0 l)

    added-other : (k : ℕ) → get_or classes n 0 ≢ k → get_or (added m keys classes W n cells) k 0 ≡ get_or cells k 0
    unfolding added
    added-other k d = get_or-set_other cells (get_or classes n 0) k _ 0 (λ e. d (sym e))

  pub gathered-length : (ns cells : List ℕ) → length (gathered m keys classes W ns cells) ≡ length cells
  unfolding gathered
  gathered-length [] cells = refl
  gathered-length (n ∷ ns) cells = gathered-length ns (added m keys classes W n cells) ∙ added-length n cells

  pub from-zeros : (ns : List ℕ) → length (gathered m keys classes W ns (replicate 256 0)) ≡ 256
  from-zeros ns = gathered-length ns (replicate 256 0) ∙ length-replicate {A = ℕ} 256 0

  -- the records of class k
  abbrev of_class : ℕ → List ℕ → List ℕ
  of_class k = keep (classed classes k)

  gathered-at : (ns cells : List ℕ) {k : ℕ} → k < length cells → get_or (gathered m keys classes W ns cells) k 0 ≡ get_or cells k 0 + sum (map (area m keys W) (of_class k ns))
  unfolding gathered
  gathered-at [] cells {k} l = rw (keep-empty (classed classes k), sum-none) (omega arith)
  gathered-at (n ∷ ns) cells {k} l = go (classed classes k n) refl (gathered-at ns (added m keys classes W n cells) (omega (arith, added-length n cells)))
    where
      go : (b : Bool) → classed classes k n ≡ b
          → get_or (gathered m keys classes W ns (added m keys classes W n cells)) k 0 ≡ get_or (added m keys classes W n cells) k 0 + sum (map (area m keys W) (of_class k ns))
          → get_or (gathered m keys classes W ns (added m keys classes W n cells)) k 0 ≡ get_or cells k 0 + sum (map (area m keys W) (of_class k (n ∷ ns)))
      go true e ih =
          rw (keep_taken (classed classes k) {x = n} ns e, sum-next (area m keys W n) (map (area m keys W) (of_class k ns)))
          (omega (arith, added-same n cells k l (eqb-true (get_or classes n 0) k e)))
      go false e ih = rw (keep-passed (classed classes k) {x = n} ns e) (omega (arith, added-other n cells k (eqb-false (get_or classes n 0) k e)))

  -- from zeros on, a cell counts the pixels of the records of its class
  gathered-counts : {ns : List ℕ} → Ordered ◌≢◌ ns → {k : ℕ} → k < 256
      → get_or (gathered m keys classes W ns (replicate 256 0)) k 0 ≡ how_many (λ p. any (eqb (pixel_record m keys p.0 p.1)) (of_class k ns)) (pixels W)
  unfolding area
  gathered-counts {ns} o {k} l =
      let start = gathered-at ns (replicate 256 0) {k = k} (omega (arith, length-replicate {A = ℕ} 256 0)) in
      let once = each-once (λ p. pixel_record m keys p.0 p.1) (pixels W) (ordered-keep (classed classes k) o) in
      omega (arith, start, get_or-replicate {A = ℕ} 256 k 0 0 l, once)

  -- ---- no sum passes the number of pixels

  pub gathered-most : {ns : List ℕ} → Ordered ◌≢◌ ns → (k : ℕ) → k < 256 → get_or (gathered m keys classes W ns (replicate 256 0)) k 0 ≤ W.h * W.w
  gathered-most {ns} o k l = omega (arith, gathered-counts o l, many-most (λ p. any (eqb (pixel_record m keys p.0 p.1)) (of_class k ns)) (pixels W), pixels-length W)

  -- one record more: the records before it, and it, are part of a list of different records
  pub added-most : (ns : List ℕ) (n : ℕ) (rest : List ℕ) → Ordered ◌≢◌ (ns ++ n ∷ rest) → get_or classes n 0 < 256
      → get_or (gathered m keys classes W ns (replicate 256 0)) (get_or classes n 0) 0 + area m keys W n ≤ W.h * W.w
  added-most ns n rest o l =
      let k = get_or classes n 0 in
      let before = gathered m keys classes W ns (replicate 256 0) in
      let part : Ordered ◌≢◌ (ns ++ n ∷ []) = ordered-part (ns ++ n ∷ []) rest (rw append_assoc o) in
      omega (arith, added-same n before k (omega (arith, from-zeros ns)) refl, rw (gathered_next ns n (replicate 256 0)) at (gathered-most part k l))

  -- ---- records that have all pixels

  pub gathered-all : {ns : List ℕ} → Ordered ◌≢◌ ns → ((p : Px) → In W p → Memᴰ (pixel_record m keys p.0 p.1) ns)
      → gathered m keys classes W ns (replicate 256 0) ≡ totals m keys classes W
  gathered-all {ns} o has = ext_get_or 0 _ _ (from-zeros ns ∙ sym totals-length) (λ k l. each k (omega (arith, from-zeros ns, l)))
    where
      -- a pixel's record is among those of class k exactly when its class is k
      same : (k : ℕ) (p : Px) → In W p → any (eqb (pixel_record m keys p.0 p.1)) (of_class k ns) ≡ classed classes k (pixel_record m keys p.0 p.1)
      same k p v = agree _ _ (to, λ e. has-any (eqb n) (in-keep (classed classes k) (has p v) e) (eq-eqb n n refl))
        where
          n : ℕ
          n = pixel_record m keys p.0 p.1

          to : any (eqb n) (of_class k ns) ≡ true → classed classes k n ≡ true
          to e = let t = any-has (eqb n) (of_class k ns) e in rw (eqb-true n t.0 t.2) (keep-true (classed classes k) ns t.1)

      each : (k : ℕ) → k < 256 → get_or (gathered m keys classes W ns (replicate 256 0)) k 0 ≡ get_or (totals m keys classes W) k 0
      each k l = gathered-counts o l ∙ many-same (pixels W) (λ p n. same k p ((in-pixels W).0 n)) ∙ sym (totals-at k l ∙ total-by-is (class_in m keys classes) W k)

-- ---- windows that share pixels, and windows that part another

module _ (m : ℕ) (keys classes : List ℕ) (k : ℕ) where
  pub total-shared : {A B U I : Window} → Union A B U → Intersection A B I → total m keys classes A k + total m keys classes B k ≡ total m keys classes U k + total m keys classes I k
  total-shared = total-by-shared (class_in m keys classes) k

  pub total-parted : {U : Window} {parts : List Window} → Parted U parts → sum (map (λ W. total m keys classes W k) parts) ≡ total m keys classes U k
  total-parted = total-by-parted (class_in m keys classes) k

-- the openings of a window hand out such records
pub openings-gathered : {m top : ℕ} {keys : List ℕ} → Follow m 0 keys → {W : Window} → Inside m W → top ≤ m → (classes : List ℕ)
    → gathered m keys classes W (all_hands (openings m top keys W)) (replicate 256 0) ≡ totals m keys classes W
openings-gathered {m} {top} {keys} F {W} I small classes =
    gathered-all m keys classes W (records-once (spaced F) I small)
    (λ p v. (in-hands (openings m top keys W) _).1 ((hands-whole F I small _).0 (record { at = p; inside = v; is = refl })))
