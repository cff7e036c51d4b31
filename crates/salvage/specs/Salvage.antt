-- Salvage of a broken map, record by record: what becomes of each, with what the gaps are filled, and what that brings to the result and to the log.
-- Assumes nothing.
use Rattle.std.specs.Prelude.{false, cond, ◌||◌, ℕ, suc, ◌*◌, ◌^◌, ltb, length, get_or, Result, Ok}
use mathlib.Core.List.{List, [], ◌∷◌, ◌++◌, map, flat_map}
use Rattle.answers.specs.declared.Cause.{Cause}
use Rattle.answers.specs.declared.Cause.TheVariants.{BadCount, BadKey, Overlap, Gap}
use Rattle.answers.specs.declared.Refused.{Refused}
use Rattle.answers.specs.Refusals.{number, refuse, Refusal, refusal}
use Rattle.answers.specs.Sizes.{size_refusals_in}
use Rattle.answers.specs.Cells.{overwrite}
use Rattle.answers.specs.After.{After, after, unless, room_refusals}
use Rattle.key.specs.Form.{form_of}
use Rattle.map.specs.Spans.{malformed, start, end}
use Rattle.map.specs.Classes.{not_seen}
use Rattle.stretch.specs.Fewest.{stretch}
use Rattle.salvage.specs.declared.Mended.{Mended}

-- ---- what is done

-- a mend: record n is kept; it is dropped, for a cause; or a block of this key is filled in
pub data Mend : Type 0 where
  kept : ℕ → Mend
  dropped : ℕ → Cause → Mend
  filled : ℕ → Mend

-- the places from a up to b are filled with the fewest blocks
unfoldable pub fills : ℕ → ℕ → ℕ → List Mend
fills m a b = map filled (stretch m a b)

-- record n, of key k, where the last span kept ended at `at`: a malformed key is dropped, and so is a record that starts before `at`; else the gap is filled and the record kept
unfoldable pub mends_of : ℕ → ℕ → ℕ → ℕ → List Mend
mends_of m n at k =
    let f = form_of m k in
    cond (malformed f) (dropped n BadKey ∷ []) (cond (ltb (start f) at) (dropped n Overlap ∷ []) (fills m at (start f) ++ (kept n ∷ [])))

-- where the last span kept has ended then
unfoldable pub reached : ℕ → ℕ → ℕ → ℕ
reached m at k = let f = form_of m k in cond (malformed f || ltb (start f) at) at (end f)

-- the records from n on, one after another; behind the last, the rest of the picture is filled
unfoldable pub mends_from : ℕ → ℕ → ℕ → List ℕ → List Mend
mends_from m n at [] = fills m at (4 ^ m)
mends_from m n at (k ∷ ks) = mends_of m n at k ++ mends_from m (suc n) (reached m at k) ks

-- all of them, of a map
abbrev pub mends : ℕ → List ℕ → List Mend
mends m keys = mends_from m 0 0 keys

-- ---- what that brings

-- what a mend brings to the result: the key and the class of a record that is kept; of a block that is filled in, its key and the class of what was not seen
unfoldable pub brings : List ℕ → List ℕ → Mend → List (ℕ × ℕ)
brings keys classes (kept n) = (get_or keys n 0, get_or classes n 0) ∷ []
brings keys classes (dropped n cause) = []
brings keys classes (filled key) = (key, not_seen) ∷ []

-- and what to the log: of a record that is dropped, where it stands among all, counted from 0, with the number of the cause, 3 or 4; the key of a block that is filled in, with 5
unfoldable pub logs : Mend → List (ℕ × ℕ)
logs (kept n) = []
logs (dropped n cause) = (n, number cause) ∷ []
logs (filled key) = (key, number Gap) ∷ []

-- of pairs, the first of each, and the second
unfoldable pub firsts : List (ℕ × ℕ) → List ℕ
firsts = map (λ p. p.0)

unfoldable pub seconds : List (ℕ × ℕ) → List ℕ
seconds = map (λ p. p.1)

-- and both, in two cells for each
unfoldable pub cells : List (ℕ × ℕ) → List ℕ
cells = flat_map (λ p. p.0 ∷ p.1 ∷ [])

-- the records of the result, and the entries of the log
unfoldable pub salvaged : ℕ → List ℕ → List ℕ → List (ℕ × ℕ)
salvaged m keys classes = flat_map (brings keys classes) (mends m keys)

unfoldable pub entries : ℕ → List ℕ → List (ℕ × ℕ)
entries m keys = flat_map logs (mends m keys)

-- ---- the call

-- of a result of so many records, with a log of so many entries: there are too many; or too little room for its keys or its classes; or for the log
unfoldable pub result_refusals : ℕ → ℕ → ℕ → ℕ → ℕ → List Refusal
result_refusals q n keys classes log = refusal (ltb 65536 q) BadCount 0 ∷ room_refusals keys q ++ (room_refusals classes q ++ room_refusals log (2 * n))

-- all refusals, with room for so many keys, so many classes, and so many cells of the log
unfoldable pub salvage_refusals : ℕ → List ℕ → List ℕ → ℕ → ℕ → ℕ → List Refusal
salvage_refusals m keys classes out-keys out-classes log =
    size_refusals_in false m (length keys) (length classes)
    ++ result_refusals (length (salvaged m keys classes)) (length (entries m keys)) out-keys out-classes log

-- so many records, and so many entries of the log
abbrev pub counted : ℕ → ℕ → Mended
counted records entries = record { records = records; entries = entries }

-- a refusal writes nothing; else the first cells of the slices are the keys and the classes of the result, and the log, and cells beyond keep their content
unfoldable pub salvage_of : ℕ → List ℕ → List ℕ → List ℕ → List ℕ → List ℕ → After (Result Mended Refused) (List ℕ × List ℕ × List ℕ)
salvage_of m keys classes out-keys out-classes log =
    let rs = salvaged m keys classes in
    let es = entries m keys in
    unless refuse (salvage_refusals m keys classes (length out-keys) (length out-classes) (length log)) (out-keys, out-classes, log)
    (after (Ok (counted (length rs) (length es))) (overwrite (firsts rs) out-keys, overwrite (seconds rs) out-classes, overwrite (cells es) log))
