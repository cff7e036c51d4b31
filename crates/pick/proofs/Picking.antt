-- The keys that a run has of a class, record by record.
-- Assumes nothing.
use mathlib.Core.Path.{◌≡◌, refl, ◌∙◌}
use mathlib.Core.Bool.{Bool, true, false, cond}
use mathlib.Core.List.{List, [], ◌∷◌, ◌++◌, map, map-append}
use Prim.Native.Nat.{ℕ, suc, ◌+◌, ◌-◌, ◌≤◌, ◌<◌}
use native.Mathlib.Omega.{arith}
use lib.ListN.{length, get_or, length-map}
use borrow.Author.Tests.{eq-eqb, ne_eqb, lt-ltb, le-ltb}
use Rattle.lists.specs.Lists.{up_from, keep}
use Rattle.lists.proofs.Laws.{up_none, up_one, up-length, up-append, keep-empty, keep_taken, keep-passed, keep-most, keep_append}
use Rattle.answers.specs.Cells.{Listed}
use Rattle.answers.proofs.Laws.{listed-none, listed_more}
use Rattle.map.specs.declared.Run.{Run}
use Rattle.map.specs.Classes.{classed}
use Rattle.pick.specs.Picked.{picked_run, picked_around, picked}

-- the key of a block in record n
module _ (classes : List ℕ) (class key n : ℕ) where
  pub around-has : get_or classes n 0 ≡ class → picked_around classes class key n ≡ key ∷ []
  unfolding picked_around
  around-has d = rw (eq-eqb (get_or classes n 0) class d)

  pub around-not : ¬ (get_or classes n 0 ≡ class) → picked_around classes class key n ≡ []
  unfolding picked_around
  around-not d = rw (ne_eqb (get_or classes n 0) class d)

module _ (keys classes : List ℕ) (class : ℕ) where
  -- one record lies in itself
  pub picks-one : (n : ℕ) → picked_run keys classes class n 1 ≡ picked_around classes class (get_or keys n 0) n
  unfolding picked_run picked_around
  picks-one n = go (classed classes class n) refl
    where
      go : (t : Bool) → classed classes class n ≡ t → map (λ i. get_or keys i 0) (keep (classed classes class) (up_from n 1)) ≡ cond t (get_or keys n 0 ∷ []) []
      go true e = rw (up_one n, keep_taken (classed classes class) {x = n} [] e, keep-empty (classed classes class))
      go false e = rw (up_one n, keep-passed (classed classes class) {x = n} [] e, keep-empty (classed classes class))

  -- no record, and more behind them
  pub picked_none : (first : ℕ) → picked_run keys classes class first 0 ≡ []
  unfolding picked_run
  picked_none first = rw (up_none first, keep-empty (classed classes class))

  more : (first n k : ℕ) → picked_run keys classes class first (n + k) ≡ picked_run keys classes class first n ++ picked_run keys classes class (first + n) k
  unfolding picked_run
  more first n k =
      rw (up-append first n k, keep_append (classed classes class) (up_from first n) (up_from (first + n) k))
      (map-append (λ i. get_or keys i 0) (keep (classed classes class) (up_from first n)) (keep (classed classes class) (up_from (first + n) k)))

  -- the first record, and the others
  pub picked_next : (n count : ℕ) → picked_run keys classes class n (suc count) ≡ picked_around classes class (get_or keys n 0) n ++ picked_run keys classes class (suc n) count
  picked_next n count =
      let e : suc count ≡ 1 + count = omega arith in
      let d : n + 1 ≡ suc n = omega arith in
      rw (e, more n 1 count, d, picks-one n)

  pub picked-most : (first count : ℕ) → length (picked_run keys classes class first count) ≤ count
  unfolding picked_run
  picked-most first count =
      omega (arith, length-map (keep (classed classes class) (up_from first count)) (λ i. get_or keys i 0), keep-most (classed classes class) (up_from first count), up-length first count)

-- the records from `first` up to i have been looked at
pub record Picking (keys classes : List ℕ) (class first n : ℕ) (out₀ out : List ℕ) (i k : ℕ) : Type 0 where
  pub low : first ≤ i
  pub listing : Listed n (picked_run keys classes class first (i - first)) out₀ k out

module _ {keys classes : List ℕ} {class first n : ℕ} where
  pub picking-first : {out : List ℕ} → Picking keys classes class first n out out first n
  picking-first {out} =
      let e : first - first ≡ 0 = omega arith in
      record { low = omega arith; listing = rw (e, picked_none keys classes class first) (listed-none n out) }

  module _ {out₀ out : List ℕ} {i k : ℕ} (P : Picking keys classes class first n out₀ out i k) where
    pub picking-most : k ≤ n + (i - first)
    picking-most = omega (arith, P.listing.count, picked-most keys classes class first (i - first))

    pub picking-next : {out' : List ℕ} {k' : ℕ} → Listed k (picked_around classes class (get_or keys i 0) i) out k' out'
        → Picking keys classes class first n out₀ out' (i + 1) k'
    picking-next L =
        let d : i + 1 - first ≡ i - first + 1 = omega (arith, P.low) in
        let e : first + (i - first) ≡ i = omega (arith, P.low) in
        let s : picked_run keys classes class first (i + 1 - first) ≡ picked_run keys classes class first (i - first) ++ picked_around classes class (get_or keys i 0) i =
        rw (d, ← picks-one keys classes class i) (more keys classes class first (i - first) 1 ∙ rw e) in
        record { low = omega (arith, P.low); listing = rw s (listed_more P.listing L) }

module _ (keys classes : List ℕ) (class key i : ℕ) (run : Run) where
  pub picked-around : i < run.reach → picked keys classes class key i run ≡ picked_around classes class key run.first
  unfolding picked
  picked-around l = rw (lt-ltb i run.reach l)

  pub picked-inside : run.reach ≤ i → picked keys classes class key i run ≡ picked_run keys classes class run.first run.count
  unfolding picked
  picked-inside l = rw (le-ltb i run.reach l)

pub picked-run : (keys classes : List ℕ) (class first count : ℕ) → picked_run keys classes class first count ≡ map (λ n. get_or keys n 0) (keep (classed classes class) (up_from first count))
unfolding picked_run
picked-run keys classes class first count = refl
