-- On a whole map each call for maps that may have gaps answers as the plain one, and leaves the same in every lent cell. So it does wherever the plain check refuses neither for a
-- gap nor for want of records.
-- Assumes nothing.
use mathlib.Core.Path.{◌≡◌, sym, ap, ◌∙◌}
use mathlib.Core.Bool.{true, false}
use mathlib.Core.List.{List}
use Prim.Native.Nat.{ℕ}
use lib.ListN.{length}
use Rattle.answers.proofs.Laws.{on-refused, answer-verdict}
use Rattle.window.specs.declared.Window.{Window}
use Rattle.window.specs.Window.{Inside}
use Rattle.map.specs.Sound.{SoundMap}
use Rattle.map.specs.Classes.{class_over, class_in, not_seen}
use Rattle.map.specs.Promises.{Gapless}
use Rattle.map.proofs.Laws.{gapless-same}
use Rattle.pieces.proofs.Laws.{exists-whole, totals-whole}
use Rattle.open.proofs.Laws.{open-gapless}
use Rattle.exist.specs.Exist.{presence_by}
use Rattle.exist.proofs.Laws.{presence-is, exist-gapless}
use Rattle.report.proofs.Laws.{report-gapless}
use Rattle.select.specs.Select.{selection}
use Rattle.select.proofs.Laws.{select-gapless}
use Rattle.sparse_select.specs.Select.{sparse_selection}
use Rattle.sparse_select.proofs.Laws.{sparse-whole}
use Rattle.house.specs.File.{file_q}
use Rattle.house.proofs.Laws.{read_same, write_same}
use Rattle.lutniorad.specs.declared.Answer.{Answer}
use Rattle.lutniorad.specs.Numbers.{refused, refusing}
use Rattle.lutniorad.specs.Calls.{Check, OpenTiled, Exist, Report, SelectTiled, Read, Write}
use Rattle.lutniorad.specs.Calls.{SparseCheck, SparseOpen, SparseExist, SparseReport, SparseSelect, SparseRead, SparseWrite}
use Rattle.lutniorad.proofs.Crossing.{alike}
use Rattle.lutniorad.proofs.Answered.{check-says, read-says, write-says}

-- the number of a refusal
by_number : {r : Answer} {n p : ℕ} → r ≡ refused n p → r.refusal ≡ n
by_number e = ap (λ (x : Answer). x.refusal) e

-- what the plain check does not say is known from a call of it
pub check-gapless : (m : ℕ) (keys classes : List ℕ) {r : Answer} → Check m keys classes r
    → (r.refusal ≡ 2 → length keys ≡ 0 → length classes ≡ 0 → ⊥) → (r.refusal ≡ 5 → ⊥)
    → Gapless m keys (length classes)
check-gapless m keys classes call some other = record {
  some = λ p v. some (by_number (check-says true m keys classes call ∙ on-refused refusing _ _ v));
  closed = λ p v. other (by_number (check-says true m keys classes call ∙ on-refused refusing _ _ v));
}

module _ (m : ℕ) (keys classes : List ℕ) (G : Gapless m keys (length classes)) where
  pub check-complete : {r s : Answer} → SparseCheck m keys classes r → Check m keys classes s → r ≡ s
  check-complete a b = check-says false m keys classes a ∙ answer-verdict refusing _ _ _ (gapless-same G) ∙ sym (check-says true m keys classes b)

  pub open-complete : (tile : ℕ) (W : Window) (border out : List ℕ) {r s : Answer} {border' out' border'' out'' : List ℕ}
      → SparseOpen m tile keys classes W border out r border' out' → OpenTiled m tile keys classes W border out s border'' out''
      → (r ≡ s) × (◌≡◌ {A = List ℕ × List ℕ} (border', out') (border'', out''))
  open-complete tile W border out = alike (open-gapless G tile W border out)

  pub exist-complete : (background : ℕ) (W : Window) (class : ℕ) (border : List ℕ) {r s : Answer} {border' border'' : List ℕ}
      → SparseExist m background keys classes W class border r border' → Exist m keys classes W class border s border'' → (r ≡ s) × (border' ≡ border'')
  exist-complete background W class border = alike (exist-gapless G over within W class border present)
    where
      over : ℕ → ℕ
      over = class_over background m keys classes

      within : ℕ → ℕ
      within = class_in m keys classes

      present : SoundMap m keys (length classes) → Inside m W → presence_by over W class ≡ presence_by within W class
      present S I =
          let same = exists-whole S.records classes S.sizes.same I background in
          presence-is over W class ∙ rw (same class, same not_seen) (sym (presence-is within W class))

  pub report-complete : (background : ℕ) (W : Window) (border out : List ℕ) {r s : Answer} {border' out' border'' out'' : List ℕ}
      → SparseReport m background keys classes W border out r border' out' → Report m keys classes W border out s border'' out''
      → (r ≡ s) × (◌≡◌ {A = List ℕ × List ℕ} (border', out') (border'', out''))
  report-complete background W border out =
      alike
      (report-gapless G (class_over background m keys classes) (class_in m keys classes) W border out
      (λ S I. totals-whole S.records classes S.sizes.same I background))

  pub select-complete : (tile background : ℕ) (W : Window) (class : ℕ) (border out : List ℕ) {r s : Answer} {border' out' border'' out'' : List ℕ}
      → SparseSelect m tile background keys classes W class border out r border' out' → SelectTiled m tile keys classes W class border out s border'' out''
      → (r ≡ s) × (◌≡◌ {A = List ℕ × List ℕ} (border', out') (border'', out''))
  select-complete tile background W class border out =
      alike
      (select-gapless G (sparse_selection m tile background keys classes W class) (selection m tile keys classes W class) tile W border out
      (λ S cap I. sparse-whole S.records I cap background classes S.sizes.same class))

-- files: but where reading or writing of a whole map is refused for want of records
pub read-complete : (file keys classes : List ℕ) {r s : Answer} {keys' classes' keys'' classes'' : List ℕ}
    → SparseRead file keys classes r keys' classes' → Read file keys classes s keys'' classes'' → (s.refusal ≡ 2 → file_q file ≡ 0 → ⊥)
    → (r ≡ s) × (◌≡◌ {A = List ℕ × List ℕ} (keys', classes') (keys'', classes''))
read-complete file keys classes a b some = alike (read_same file keys classes (λ v. some (by_number (read-says true file keys classes b ∙ on-refused refusing _ _ v)))) a b

pub write-complete : (m : ℕ) (keys classes out : List ℕ) {r s : Answer} {out' out'' : List ℕ}
    → SparseWrite m keys classes out r out' → Write m keys classes out s out'' → (s.refusal ≡ 2 → length keys ≡ 0 → length classes ≡ 0 → ⊥) → (r ≡ s) × (out' ≡ out'')
write-complete m keys classes out a b some = alike (write_same m keys classes out (λ v. some (by_number (write-says true m keys classes out b ∙ on-refused refusing _ _ v)))) a b
