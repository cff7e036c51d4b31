-- What is listed of one block makes up those of its places that have the class.
-- Assumes nothing.
use mathlib.Core.Path.{◌≡◌, sym, ◌∙◌}
use mathlib.Core.Bool.{true}
use mathlib.Core.List.{List, [], ◌∷◌}
use Prim.Native.Nat.{ℕ, suc, ◌+◌, ◌^◌, ◌≤◌, ◌<◌}
use native.Mathlib.Decide.{dec_lt, ℕ_discrete}
use native.Mathlib.Omega.{arith}
use lib.ListN.{length, get_or}
use Rattle.lists.specs.Lists.{up_from, Ordered}
use Rattle.key.specs.Blocks.{Names, Among}
use Rattle.key.proofs.Laws.{Covers, block-lies, pow-least}
use Rattle.map.specs.Sound.{Spaced}
use Rattle.map.specs.Runs.{run_of}
use Rattle.map.specs.Classes.{class_over}
use Rattle.map.proofs.Laws.{Record, record-at, class-held, class-free, reach-least, reach-beyond}
use Rattle.pick.specs.Picked.{picked_around}
use Rattle.pick.proofs.Laws.{around-has, around-not}
use Rattle.select.specs.Select.{around}
use Rattle.select.proofs.Laws.{around-is, Lying, lies, apart, lying}
use Rattle.sparse_select.specs.Select.{blank, merged, sparse_selected}
use Rattle.sparse_select.proofs.Made.{Made, made_none, made-append, made-one-block, made-stretch, made-rising}
use Rattle.sparse_select.proofs.Pieces.{Gap, Pieces, last, next, block-pieces}
use Rattle.sparse_select.proofs.Merged.{blank-own, blank-other, blank_none, merged-last, merged-next, sparse-whole-key, sparse-merged}

-- place q has the class
abbrev pub HasClass : ℕ → ℕ → List ℕ → List ℕ → ℕ → ℕ → Type 0
HasClass m background keys classes class q = class_over background m keys classes q ≡ class

module _ {m : ℕ} {keys : List ℕ} (F : Spaced m 0 keys) (background : ℕ) (classes : List ℕ) (same : length keys ≡ length classes) where
  -- ---- the class of a place

  over-record : {n i s q : ℕ} → Record m keys n i s → Among s (4 ^ i) q → class_over background m keys classes q ≡ get_or classes n 0
  over-record {n} {i} {s} R h = class-held F classes same background (record { index = n; exponent = i; start = s; is = R; has = h })

  -- ---- gaps and records, merged

  module _ (class : ℕ) where
    abbrev Has : ℕ → Type 0
    Has = HasClass m background keys classes class

    gap-made : {a b : ℕ} → b ≤ 4 ^ m → Gap m keys a b → Made m Has b a (blank m background keys classes class a b)
    gap-made {a} {b} room G = go (ℕ_discrete class background)
      where
        go : Dec (class ≡ background) → Made m Has b a (blank m background keys classes class a b)
        go (yes e) = rw (blank-own m background keys classes class a b e) (made-stretch a b room (λ q l h. class-free F classes same background (G.free q l h) ∙ sym e))
        go (no n) = rw (blank-other m background keys classes class a b n) (made_none {a = a} (λ q l h p. n (sym p ∙ class-free F classes same background (G.free q l h))))

    record-made : {n i s : ℕ} → Record m keys n i s → Made m Has (s + 4 ^ i) s (picked_around classes class (get_or keys n 0) n)
    record-made {n} {i} {s} R = go (ℕ_discrete (get_or classes n 0) class)
      where
        go : Dec (get_or classes n 0 ≡ class) → Made m Has (s + 4 ^ i) s (picked_around classes class (get_or keys n 0) n)
        go (yes e) = rw (around-has classes class (get_or keys n 0) n e) (made-one-block R.names (λ q h. over-record R h ∙ e))
        go (no d) = rw (around-not classes class (get_or keys n 0) n d) (made_none {a = s} (λ q l h p. d (sym (over-record R (omega arith)) ∙ p)))

    merged-made : {to at n count : ℕ} → to ≤ 4 ^ m → Pieces m keys to at n count → Made m Has to at (merged m background keys classes class to at (up_from n count))
    merged-made {to} {at} {n} room (last G) = rw (merged-last m background keys classes class to at n) (gap-made room G)
    merged-made {to} {at} {n} room (next {count = count} {i = i} {s = s} G R e l P) =
        let p = pow-least 3 i in
        rw (merged-next m background keys classes class to at count R, ← e)
        (made-append G.order (omega arith) (gap-made (omega arith) G)
        (made-append {c = _} (omega arith) l (rw (← e) at (record-made R)) (merged-made room P)))

    -- ---- of a block, by cases

    pub data Case (key i s : ℕ) : Type 0 where
      -- it lies in a record of the class, or in one of another
      whole : {n j t : ℕ} → Record m keys n j t → Covers t (4 ^ j) s (4 ^ i) → get_or classes n 0 ≡ class
          → sparse_selected m background keys classes class key ≡ key ∷ [] → Case key i s
      other : {n j t : ℕ} → Record m keys n j t → Covers t (4 ^ j) s (4 ^ i) → ¬ (get_or classes n 0 ≡ class)
          → sparse_selected m background keys classes class key ≡ [] → Case key i s
      -- or its records reach no further
      parts : (run_of m keys key).reach ≡ i → sparse_selected m background keys classes class key
          ≡ merged m background keys classes class (s + 4 ^ i) s (up_from (run_of m keys key).first (run_of m keys key).count) → Case key i s

    -- of places in a record of another class nothing is listed
    hidden : {to at n j t : ℕ} → Record m keys n j t → t ≤ at → to ≤ t + 4 ^ j → ¬ (get_or classes n 0 ≡ class) → merged m background keys classes class to at (up_from n 1) ≡ []
    hidden {to} {at} {n} {j} {t} R l h d =
        merged-next m background keys classes class to at 0 R
        ∙ rw (
          blank_none m background keys classes class {a = at} {b = t} l,
          around-not classes class (get_or keys n 0) n d,
          merged-last m background keys classes class to (t + 4 ^ j) (suc n),
          blank_none m background keys classes class {a = t + 4 ^ j} {b = to} h,
        )

    module _ {key i s : ℕ} (B : Names m key i s) where
      pub case : Case key i s
      case = go (lying m keys classes class key)
        where
          beyond : ((n : ℕ) → n < length keys → ¬ (around m keys classes class key n ≡ true)) → Dec (i < (run_of m keys key).reach) → Case key i s
          beyond h (yes l) =
              let A = reach-beyond F B l in
              let d : ¬ (get_or classes (run_of m keys key).first 0 ≡ class) = λ e. h (run_of m keys key).first A.is.within ((around-is classes class B A.is).1 (e, A.around)) in
              other A.is A.around d (sparse-merged m background keys classes class B h ∙ rw A.one (hidden A.is A.around.least A.around.most d))
          beyond h (no l) = parts (omega (arith, reach-least F B)) (sparse-merged m background keys classes class B h)

          go : Lying m keys classes class key → Case key i s
          go (lies {n = n} l e) =
              let R = record-at F n l in
              let a = (around-is classes class B R.is).0 e in
              whole R.is a.1 a.0 (sparse-whole-key m background keys classes class key l e)
          go (apart h) = beyond h (dec_lt i (run_of m keys key).reach)

      pub sparse-made : Made m Has (s + 4 ^ i) s (sparse_selected m background keys classes class key)
      sparse-made = go case
        where
          go : Case key i s → Made m Has (s + 4 ^ i) s (sparse_selected m background keys classes class key)
          go (whole R c e d) = rw d (made-one-block B (λ q h. over-record R (omega arith) ∙ e))
          go (other R c e d) = rw d (made_none {a = s} (λ q l h p. e (sym (over-record R (omega arith)) ∙ p)))
          go (parts e d) = rw d (merged-made (block-lies B).span (block-pieces F B e))

      -- so its keys rise
      pub sparse-rising : Ordered ◌<◌ (sparse_selected m background keys classes class key)
      sparse-rising = made-rising sparse-made
