-- What is promised of calls on a map that may have gaps, from the contracts of the calls alone.
-- Assumes nothing.
use mathlib.Core.Path.{◌≡◌, refl, ◌∙◌}
use mathlib.Core.Bool.{false}
use mathlib.Core.List.{List}
use Prim.Native.Nat.{ℕ, ◌+◌, ◌*◌, ◌/◌, ◌^◌, ◌≤◌}
use native.Mathlib.Omega.{arith}
use lib.ListN.{length, take}
use Rattle.window.specs.declared.Window.{Window}
use Rattle.window.proofs.Laws.{key-block}
use Rattle.border.specs.Promises.{openings_in}
use Rattle.border.proofs.Laws.{unmet-none, empty-is, empty-or-brings, fewest}
use Rattle.used.specs.Promises.{AnswerableIn}
use Rattle.select.proofs.Laws.{selection-capped}
use Rattle.sparse_select.specs.Select.{sparse_selection}
use Rattle.sparse_select.proofs.Laws.{laid-inside, laid-small, laid-most, sparse-blockwise, sparse-flat, sparse-plain, sparse-most, sparse-rising}
use Rattle.sparse_select.proofs.Laws.{sparse-records, sparse-other, sparse-gaps, sparse-least, block-blank}
use Rattle.lutniorad.specs.declared.Answer.{Answer}
use Rattle.lutniorad.specs.Calls.{SparseOpen, SparseSelect}
use Rattle.lutniorad.specs.SparsePromises.{SparseOpenPromise, SparseSelectPromise}
use Rattle.lutniorad.proofs.Opening.{open-answered, open-stand, open-states}
use Rattle.lutniorad.proofs.Selecting.{select-answered, select-stand, select-laid}

pub sparse-open-promise : (m top : ℕ) (keys classes : List ℕ) (W : Window) (border out : List ℕ) {r : Answer} {border' out' : List ℕ}
    → SparseOpen m top keys classes W border out r border' out' → r.refusal ≡ 0
    → SparseOpenPromise m top keys W border out (openings_in (take (3 * r.first) out')) r border' out'
sparse-open-promise m top keys classes W border out call z =
    let t = (open-answered false m top keys classes W border out call).0 z in
    let F = t.1.0.sound.records in
    let I = t.1.0.inside in
    let stand = open-stand false m top keys classes W border out call z in
    record {
      states = open-states false m top keys classes W border out call z;
      empty = rw stand (empty-is F I t.0);
      some = rw stand (empty-or-brings F I t.0);
      fewest = rw stand (fewest F I t.0);
    }

module _ (m top background : ℕ) (keys classes : List ℕ) (W : Window) (class : ℕ) (border out : List ℕ) {r : Answer} {border' out' : List ℕ}
    (call : SparseSelect m top background keys classes W class border out r border' out') where
  abbrev listed : List ℕ
  listed = sparse_selection m top background keys classes W class

  -- a cell for each pixel of the window is room enough
  pub sparse-select-enough : top ≤ m → AnswerableIn false m keys (length classes) W (length border) → W.h * W.w ≤ length out → r.refusal ≡ 0
  sparse-select-enough cap A l =
      (select-answered false listed m top keys classes W border out call).1
      (cap, (A, omega (arith, sparse-most {top = top} A.sound.records A.inside cap background classes A.sound.sizes.same class)))

  -- and for another class than the background's what is enough on a whole map
  pub sparse-select-enough-other : ¬ (class ≡ background) → top ≤ m → AnswerableIn false m keys (length classes) W (length border)
      → length keys + 4 * (W.w + W.h) + W.w * W.h / 4 ^ top ≤ length out → r.refusal ≡ 0
  sparse-select-enough-other other cap A l =
      let same = sparse-plain {top = top} A.sound.records A.inside cap background classes A.sound.sizes.same class other in
      (select-answered false listed m top keys classes W border out call).1 (cap, (A, rw same (omega (arith, selection-capped A.sound.records A.inside cap classes class))))

  pub sparse-select-promise : r.refusal ≡ 0 → SparseSelectPromise m top background keys classes W class border out (take r.first out') r border' out'
  sparse-select-promise z =
      let t = (select-answered false listed m top keys classes W border out call).0 z in
      let cap = t.0 in
      let I = t.1.0.inside in
      let F = t.1.0.sound.records in
      let n = t.1.0.sound.sizes.same in
      let B = sparse-blockwise F background classes n class in
      rw (select-stand false listed m top keys classes W border out call z ∙ sparse-flat m top background keys classes W class) (record {
        states = select-laid false listed m top keys classes W border out call z F B (sparse-flat m top background keys classes W class);
        inside = λ p x v l h. laid-inside F I cap B p v l h;
        small = λ x i s l b. laid-small F I cap B l b;
        most = laid-most F I cap B;
        in_order = refl;
        rising = λ key l. sparse-rising F background classes n class (key-block I cap l).3;
        records = λ key l. sparse-records F background classes n class (key-block I cap l).3;
        other = λ else key l. sparse-other F background classes n class else (key-block I cap l).3;
        gaps = λ own key i s l B. sparse-gaps F background classes n class own B;
        fewest = λ own key i s l B blocks M. sparse-least F background classes n class own B M;
        blank = λ own key l U. block-blank F background classes n class (key-block I cap l).3 (unmet-none F (key-block I cap l).3 U) own;
      })
