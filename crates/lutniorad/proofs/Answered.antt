-- Checking, exist, reading and writing as calls. The four numbers are the first refusal that holds, or values; of lent working memory only the lengths count. So it is
-- known when a call is answered, and a refused call leaves every lent cell as it was.
-- Assumes nothing.
use mathlib.Core.Path.{◌≡◌, refl, ap, ◌∙◌}
use mathlib.Core.Logic.{◌↔◌}
use mathlib.Core.Bool.{Bool, true, false, cond}
use mathlib.Core.List.{List}
use Prim.Native.Nat.{ℕ, ◌+◌, ◌*◌, ◌≤◌}
use native.Mathlib.Omega.{arith}
use lib.ListN.{length}
use Rattle.answers.specs.Refusals.{answer, refuse}
use Rattle.answers.specs.Sizes.{SizedIn}
use Rattle.answers.proofs.Laws.{answer-part, on-passed}
use Rattle.window.specs.declared.Window.{Window}
use Rattle.window.specs.Rules.{exists_by}
use Rattle.map.specs.Classes.{not_seen}
use Rattle.map.specs.Check.{map_refusals_in}
use Rattle.map.specs.Sound.{SoundIn}
use Rattle.map.proofs.Laws.{sound-map, check-is, numbered-map}
use Rattle.used.specs.Used.{use_refusals_in}
use Rattle.used.specs.Promises.{AnswerableIn}
use Rattle.used.proofs.Laws.{use-answerable, numbered-use}
use Rattle.house.specs.File.{read_refusals_in, write_refusals_in, file_m, file_q}
use Rattle.house.specs.Promises.{ReadableIn}
use Rattle.house.proofs.Laws.{numbered-read, read-passed, read-by-lengths, read-untouched, numbered-write, write-passed, write-by-length, write-untouched}
use Rattle.exist.specs.declared.Existence.TheVariants as existence
use Rattle.exist.specs.Exist.{presence_by}
use Rattle.exist.proofs.Laws.{presence-is, exist-by-lengths, exist-untouched}
use Rattle.lutniorad.specs.declared.Answer.{Answer}
use Rattle.lutniorad.specs.Numbers.{values, refusing, of_count, existence_values, of_existence, of_reading}
use Rattle.lutniorad.specs.Calls.{CheckIn, ExistIn, ReadIn, WriteIn}
use Rattle.lutniorad.proofs.Crossing.{both-slices}
use Rattle.lutniorad.proofs.Told.{four, told-most, told-when, told-kept}

-- ---- checking

module _ (whole : Bool) (m : ℕ) (keys classes : List ℕ) {r : Answer} (call : CheckIn whole m keys classes r) where
  pub check-says : r ≡ answer refusing (map_refusals_in whole m keys (length classes)) (values (length keys) 0)
  check-says = call.answer ∙ ap of_count (check-is whole m keys (length classes)) ∙ answer-part of_count refuse (map_refusals_in whole m keys (length classes)) _

  pub check-numbered : r.refusal ≤ 5
  check-numbered = told-most four _ refl (numbered-map (omega arith) whole m keys (length classes)) check-says

  pub check-answered : (r.refusal ≡ 0) ↔ SoundIn whole m keys (length classes)
  check-answered = told-when four _ refl (numbered-map {most = 5} (omega arith) whole m keys (length classes)) check-says (sound-map m keys (length classes))

  pub check-promise : r.refusal ≡ 0 → r ≡ values (length keys) 0
  check-promise z = check-says ∙ on-passed refusing _ _ ((sound-map m keys (length classes)).1 (check-answered.0 z))

-- ---- exist

-- yes, no or can't tell, as a number
abbrev pub say_exists : (ℕ → ℕ) → Window → ℕ → Answer
say_exists rule W class = existence_values (presence_by rule W class)

module _ (whole : Bool) (rule : ℕ → ℕ) (m : ℕ) (keys classes : List ℕ) (W : Window) (class : ℕ) (border : List ℕ) {border' : List ℕ} {r : Answer}
    (call : ExistIn whole rule m keys classes W class border r border') where
  pub exist-says : r ≡ answer refusing (use_refusals_in whole m keys (length classes) W (length border)) (say_exists rule W class)
  exist-says =
      call.answer
      ∙ ap of_existence (exist-by-lengths whole rule m keys (length classes) W class border)
      ∙ answer-part of_existence refuse (use_refusals_in whole m keys (length classes) W (length border)) _

  -- none of the three is a refusal
  pub exist-clear : (say_exists rule W class).refusal ≡ 0
  exist-clear = rw (presence-is rule W class) (go (exists_by rule W class) (exists_by rule W not_seen))
    where
      go : (a b : Bool) → (existence_values (cond a existence.Yes (cond b existence.CannotTell existence.No))).refusal ≡ 0
      go true b = refl
      go false true = refl
      go false false = refl

  pub exist-numbered : r.refusal ≤ 7
  exist-numbered = told-most four (say_exists rule W class) exist-clear (numbered-use whole m keys (length classes) W (length border) (omega arith)) exist-says

  pub exist-answered : (r.refusal ≡ 0) ↔ AnswerableIn whole m keys (length classes) W (length border)
  exist-answered =
      told-when four (say_exists rule W class) exist-clear (numbered-use whole m keys (length classes) W (length border) {most = 7} (omega arith)) exist-says
      (use-answerable whole m keys (length classes) W (length border))

  pub exist-kept : (r.refusal ≡ 0 → ⊥) → border' ≡ border
  exist-kept =
      told-kept four (say_exists rule W class) exist-clear (numbered-use whole m keys (length classes) W (length border) {most = 7} (omega arith)) exist-says
      (λ held. call.cells ∙ exist-untouched whole rule m keys (length classes) W class border held)

-- ---- files

module _ (whole : Bool) (file keys classes : List ℕ) {keys' classes' : List ℕ} {r : Answer} (call : ReadIn whole file keys classes r keys' classes') where
  pub read-says : r ≡ answer refusing (read_refusals_in whole file (length keys) (length classes)) (values (file_m file) (file_q file))
  read-says =
      call.answer ∙ ap of_reading (read-by-lengths whole file keys classes) ∙ answer-part of_reading refuse (read_refusals_in whole file (length keys) (length classes)) _

  pub read-numbered : r.refusal ≤ 9
  read-numbered = told-most four _ refl (numbered-read whole file (length keys) (length classes)) read-says

  pub read-answered : (r.refusal ≡ 0) ↔ ReadableIn whole file (length keys) (length classes)
  read-answered = told-when four _ refl (numbered-read whole file (length keys) (length classes)) read-says (read-passed whole file (length keys) (length classes))

  pub read_kept : (r.refusal ≡ 0 → ⊥) → (keys' ≡ keys) × (classes' ≡ classes)
  read_kept held = both-slices (call.cells ∙ read-untouched whole file keys classes (λ R. held (read-answered.1 R)))

module _ (whole : Bool) (m : ℕ) (keys classes out : List ℕ) {out' : List ℕ} {r : Answer} (call : WriteIn whole m keys classes out r out') where
  pub write-says : r ≡ answer refusing (write_refusals_in whole m (length keys) (length classes) (length out)) (values (20 + 5 * length keys) 0)
  write-says =
      call.answer
      ∙ ap of_count (write-by-length whole m keys classes out)
      ∙ answer-part of_count refuse (write_refusals_in whole m (length keys) (length classes) (length out)) _

  pub write-numbered : r.refusal ≤ 8
  write-numbered = told-most four _ refl (numbered-write whole m (length keys) (length classes) (length out)) write-says

  pub write-answered : (r.refusal ≡ 0) ↔ (SizedIn whole m (length keys) (length classes) × (20 + 5 * length keys ≤ length out))
  write-answered = told-when four _ refl (numbered-write whole m (length keys) (length classes) (length out)) write-says (write-passed whole m (length keys) (length classes) (length out))

  pub write_kept : (r.refusal ≡ 0 → ⊥) → out' ≡ out
  write_kept held = call.cells ∙ write-untouched whole m keys classes out (λ t. held (write-answered.1 t))
