-- What is listed of one block, by the run of records that overlap it: for the functions.
-- Assumes nothing.
use mathlib.Core.Path.{◌≡◌, refl, sym, ap, ◌∙◌}
use mathlib.Core.List.{List, [], ◌∷◌}
use Prim.Native.Nat.{ℕ, suc, ◌+◌, ◌^◌, ◌≤◌, ◌<◌}
use native.Mathlib.Decide.{dec_lt}
use native.Mathlib.Omega.{arith}
use lib.ListN.{length, get_or}
use Rattle.lists.specs.Lists.{up_from}
use Rattle.answers.specs.Cells.{Listed}
use Rattle.key.specs.Blocks.{Names, Among}
use Rattle.key.proofs.Laws.{Covers, one_key, nested}
use Rattle.map.specs.declared.Run.{Run}
use Rattle.map.specs.Runs as runs
use Rattle.map.specs.Runs.{run_of, BlockOf, Splits}
use Rattle.map.specs.Sound.{Spaced}
use Rattle.map.proofs.Laws.{Record, record-at, found-around, block-records, reach-least, reach-within, reach-beyond}
use Rattle.pick.specs.Picked.{picked_around}
use Rattle.pick.proofs.Laws.{around-has, around-not}
use Rattle.stretch.proofs.Laws.{stretch-whole}
use Rattle.select.proofs.Laws.{around-is, Lying, lies, apart, lying}
use Rattle.sparse_select.specs.Select.{merged, sparse_selected}
use Rattle.sparse_select.specs.Asked.{Asked}
use Rattle.sparse_select.proofs.Merged.{blank-own, blank_none, merged-last, merged-next, sparse-whole-key, sparse-merged}
use Rattle.sparse_select.proofs.Block.{Case, whole, other, parts, case}

module _ {m : ℕ} {keys : List ℕ} (F : Spaced m 0 keys) (background : ℕ) (classes : List ℕ) (same : length keys ≡ length classes) (class : ℕ)
    {key i s : ℕ} (B : Names m key i s) where
  abbrev run : Run
  run = run_of m keys key

  -- a record of the class that is the block: it alone is merged
  own-merged : {n : ℕ} → Record m keys n i s → get_or classes n 0 ≡ class → merged m background keys classes class (s + 4 ^ i) s (up_from n 1) ≡ key ∷ []
  own-merged {n} R d =
      let e : get_or keys n 0 ≡ key = one_key R.names B in
      merged-next m background keys classes class (s + 4 ^ i) s 0 R
      ∙ rw (
        blank_none m background keys classes class {a = s} {b = s} (omega arith),
        merged-last m background keys classes class (s + 4 ^ i) (s + 4 ^ i) (suc n),
        blank_none m background keys classes class {a = s + 4 ^ i} {b = s + 4 ^ i} (omega arith),
        around-has classes class (get_or keys n 0) n d,
        e,
      )

  -- records that reach no further: they and the gaps are merged
  pub block-merged : (run_of m keys key).reach ≡ i
      → sparse_selected m background keys classes class key
      ≡ merged m background keys classes class (s + 4 ^ i) s (up_from (run_of m keys key).first (run_of m keys key).count)
  block-merged short = go (lying m keys classes class key)
    where
      go : Lying m keys classes class key
          → sparse_selected m background keys classes class key ≡ merged m background keys classes class (s + 4 ^ i) s (up_from run.first run.count)
      go (apart h) = sparse-merged m background keys classes class B h
      go (lies {n = n} l e) =
          let R = record-at F n l in
          let a = (around-is classes class B R.is).0 e in
          let f : run ≡ runs.run n 1 R.exponent = found-around F B R.is ((nested R.is.names B).0 a.1) in
          let j : R.exponent ≡ i = sym (ap (λ (r : Run). r.reach) f) ∙ short in
          let t : R.start ≡ s = omega (arith, a.1, ap (λ (x : ℕ). 4 ^ x) j) in
          sparse-whole-key m background keys classes class key l e ∙ rw f (sym (own-merged (rw (j, t) at R.is) a.0))

  -- one that reaches further contains the block
  pub block-around : i < (run_of m keys key).reach → sparse_selected m background keys classes class key ≡ picked_around classes class key (run_of m keys key).first
  block-around l = go (case F background classes same class B)
    where
      first : {n j t : ℕ} → Record m keys n j t → Covers t (4 ^ j) s (4 ^ i) → run.first ≡ n
      first R c = ap (λ (r : Run). r.first) (found-around F B R ((nested R.names B).0 c))

      go : Case F background classes same class key i s → sparse_selected m background keys classes class key ≡ picked_around classes class key run.first
      go (whole {n = n} R c e d) = d ∙ sym (rw (first R c) (around-has classes class key n e))
      go (other {n = n} R c e d) = d ∙ sym (rw (first R c) (around-not classes class key n e))
      go (parts e d) = absurd (omega arith)

  -- none at all: the background's own key
  pub block-blank : (run_of m keys key).count ≡ 0 → class ≡ background → sparse_selected m background keys classes class key ≡ key ∷ []
  block-blank none d = go (dec_lt i run.reach)
    where
      go : Dec (i < run.reach) → sparse_selected m background keys classes class key ≡ key ∷ []
      go (yes l) = absurd (omega (arith, (reach-beyond F B l).one))
      go (no l) =
          block-merged (omega (arith, reach-least F B))
          ∙ rw none (merged-last m background keys classes class (s + 4 ^ i) s run.first ∙ blank-own m background keys classes class s (s + 4 ^ i) d ∙ stretch-whole B)

-- what is asked, of the run that was found
pub asked-run : {m : ℕ} {keys classes : List ℕ} {class key n : ℕ} {run : Run} → Asked m keys classes class key (run_of m keys key) n → run ≡ run_of m keys key
    → Asked m keys classes class key run n
asked-run A e = record { small = A.small; few = A.few; same = A.same; spaced = A.spaced; is = e; room = A.room }

-- and with a block's exponent
module _ {m : ℕ} {keys classes : List ℕ} {class key n : ℕ} {run : Run} (A : Asked m keys classes class key run n) {i : ℕ} (B : BlockOf m key i) where
  module _ (l : i < run.reach) where
    beyond : i < (run_of m keys key).reach
    beyond = rw A.is at l

    pub asked-within : run.first < length classes
    asked-within = rw A.is (omega (arith, (reach-beyond A.spaced B.names beyond).is.within, A.same))

    pub asked-around : {out out' : List ℕ} {k : ℕ} → Listed n (picked_around classes class key run.first) out k out'
        → Listed n (sparse_selected m class keys classes class key) out k out'
    asked-around L = rw (block-around A.spaced class classes A.same class B.names beyond, ← A.is) L

  -- where none lies in the block and none reaches further, there is none
  pub asked-none : {a : ℕ} → Splits keys key a → Splits keys (key + 5 ^ i) a → run.reach ≤ i → run.count ≡ 0
  asked-none {a} below over short = rw A.is (go (dec_lt 0 (run_of m keys key).count))
    where
      first : ℕ
      first = (run_of m keys key).first

      clash : Dec (first < a) → first < length keys → Among key (5 ^ i) (get_or keys first 0) → ⊥
      clash (yes l) w h = omega (arith, below.below first l, h)
      clash (no l) w h = omega (arith, over.over first (omega arith) w, h)

      go : Dec (0 < (run_of m keys key).count) → (run_of m keys key).count ≡ 0
      go (no l) = omega (arith, l)
      go (yes l) =
          let same : (run_of m keys key).reach ≡ i = omega (arith, reach-least A.spaced B.names, ap (λ (r : Run). r.reach) A.is) in
          let R = record-at A.spaced first (omega (arith, (block-records A.spaced B.names).room)) in
          let in_block = (nested B.names R.is.names).0 (reach-within A.spaced B.names same (omega arith) R.is) in
          absurd (clash (dec_lt first a) R.is.within in_block)

  pub asked-blank : run.count ≡ 0 → sparse_selected m class keys classes class key ≡ key ∷ []
  asked-blank e = block-blank A.spaced class classes A.same class B.names (rw A.is at e) refl
