-- Refusal 5, of a gap, is not given by the calls for maps that may have gaps.
-- Assumes nothing.
use mathlib.Core.Path.{◌≡◌}
use mathlib.Core.Bool.{false}
use mathlib.Core.List.{List}
use Prim.Native.Nat.{ℕ}
use native.Mathlib.Omega.{arith}
use lib.ListN.{length}
use Rattle.answers.proofs.Laws.{Without, without-append, without-room, without-tile}
use Rattle.window.specs.declared.Window.{Window}
use Rattle.map.specs.Classes.{class_over}
use Rattle.map.proofs.Laws.{without-map}
use Rattle.used.specs.Used.{use_refusals_in}
use Rattle.used.proofs.Laws.{without-use}
use Rattle.sparse_select.specs.Select.{sparse_selection}
use Rattle.lutniorad.specs.declared.Answer.{Answer}
use Rattle.lutniorad.specs.Numbers.{values}
use Rattle.lutniorad.specs.Calls.{SparseCheck, SparseOpen, SparseExist, SparseReport, SparseSelect}
use Rattle.lutniorad.proofs.Told.{four, told-without}
use Rattle.lutniorad.proofs.Answered.{check-says, say_exists, exist-says, exist-clear}
use Rattle.lutniorad.proofs.Opening.{open-says}
use Rattle.lutniorad.proofs.Asked.{report-says}
use Rattle.lutniorad.proofs.Selecting.{select-says}

module _ (m : ℕ) (keys classes : List ℕ) where
  pub sparse-check-5 : {r : Answer} → SparseCheck m keys classes r → r.refusal ≡ 5 → ⊥
  sparse-check-5 call = told-without four (values (length keys) 0) (λ e. omega (arith, e)) (without-map m keys (length classes)) (check-says false m keys classes call)

  module _ (W : Window) (border : List ℕ) where
    before : Without 5 (use_refusals_in false m keys (length classes) W (length border))
    before = without-use m keys (length classes) W (length border)

    pub sparse-exist-5 : (background class : ℕ) {r : Answer} {border' : List ℕ} → SparseExist m background keys classes W class border r border' → r.refusal ≡ 5 → ⊥
    sparse-exist-5 background class call =
        let rule = class_over background m keys classes in
        let clear = exist-clear false rule m keys classes W class border call in
        told-without four (say_exists rule W class) (λ e. omega (arith, e, clear)) before (exist-says false rule m keys classes W class border call)

    module _ (out : List ℕ) {r : Answer} {border' out' : List ℕ} where
      pub sparse-report-5 : (background : ℕ) → SparseReport m background keys classes W border out r border' out' → r.refusal ≡ 5 → ⊥
      sparse-report-5 background call =
          told-without four _ (λ e. omega (arith, e)) (without-append before (without-room _ _ (λ e. omega (arith, e))))
          (report-says false (class_over background m keys classes) m keys classes W border out call)

      pub sparse-open-5 : (tile : ℕ) → SparseOpen m tile keys classes W border out r border' out' → r.refusal ≡ 5 → ⊥
      sparse-open-5 tile call =
          told-without four _ (λ e. omega (arith, e)) (without-append (without-tile m tile (omega arith) (λ e. omega (arith, e))) (without-append before (without-room _ _ (λ e. omega (arith, e)))))
          (open-says false m tile keys classes W border out call)

      pub sparse-select-5 : (tile background class : ℕ) → SparseSelect m tile background keys classes W class border out r border' out' → r.refusal ≡ 5 → ⊥
      sparse-select-5 tile background class call =
          told-without four _ (λ e. omega (arith, e)) (without-append (without-tile m tile (omega arith) (λ e. omega (arith, e))) (without-append before (without-room _ _ (λ e. omega (arith, e)))))
          (select-says false (sparse_selection m tile background keys classes W class) m tile keys classes W border out call)
