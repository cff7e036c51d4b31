-- Exist: whether some pixel of a window has a class, as far as it was seen; the answer and every lent cell, on every input.
-- Assumes nothing.
use Rattle.std.specs.Prelude.{Bool, true, cond, List, ℕ, length, Result, Ok}
use Rattle.answers.specs.declared.Refused.{Refused}
use Rattle.answers.specs.Refusals.{refuse}
use Rattle.answers.specs.After.{After, after, unless}
use Rattle.window.specs.declared.Window.{Window}
use Rattle.window.specs.Rules.{exists_by}
use Rattle.map.specs.Classes.{class_in, not_seen}
use Rattle.used.specs.Used.{use_refusals_in, spent}
use Rattle.exist.specs.declared.Existence.{Existence}
use Rattle.exist.specs.declared.Existence.TheVariants as existence

-- ---- by any rule that gives places classes

-- yes, where some pixel has the class; can't tell, where none has it and some were not seen; no, where none has it and all were seen
unfoldable pub presence_by : (ℕ → ℕ) → Window → ℕ → Existence
presence_by rule W class = cond (exists_by rule W class) existence.Yes (cond (exists_by rule W not_seen) existence.CannotTell existence.No)

-- an accepted call: one of the three, and the border is spent
unfoldable pub existing_by : (ℕ → ℕ) → Window → ℕ → List ℕ → After (Result Existence Refused) (List ℕ)
existing_by rule W class border = after (Ok (presence_by rule W class)) (spent W border)

-- exist, on a map that is to be whole or may have gaps, of so many classes: refusals 1 to 7 leave the border as it was
unfoldable pub exist_in : Bool → (ℕ → ℕ) → ℕ → List ℕ → ℕ → Window → ℕ → List ℕ → After (Result Existence Refused) (List ℕ)
exist_in whole rule m keys classes W class border =
    unless refuse (use_refusals_in whole m keys classes W (length border)) border (existing_by rule W class border)

-- ---- by a whole map

abbrev pub existing : ℕ → List ℕ → List ℕ → Window → ℕ → List ℕ → After (Result Existence Refused) (List ℕ)
existing m keys classes = existing_by (class_in m keys classes)

abbrev pub exist_of : ℕ → List ℕ → List ℕ → Window → ℕ → List ℕ → After (Result Existence Refused) (List ℕ)
exist_of m keys classes = exist_in true (class_in m keys classes) m keys (length classes)
