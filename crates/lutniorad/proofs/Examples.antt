-- P1 and P2 as calls: the contracts hold of these numbers and cells, so what opening and decomposing promise holds of these very cells. Why its record 5 and its block 9 are on
-- the list or are not. P1's window among others. Exist where it cannot tell. And a row of calls of a month.
-- Assumes nothing.
use mathlib.Core.Path.{◌≡◌, refl, sym}
use mathlib.Core.Bool.{true, false}
use mathlib.Core.List.Memᴰ
use mathlib.Core.List.{List, [], ◌∷◌, ◌++◌}
use Prim.Native.Nat.{ℕ, ◌≤◌}
use native.Mathlib.Omega.{arith}
use lib.ListN.{length, take}
use Rattle.lists.specs.Lists.{up_from, any, keep, before, how_many, greatest}
use Rattle.answers.specs.Refusals.{answer}
use Rattle.answers.specs.Sizes.{wrong_count, size_refusals_in, picture_refusals, count_refusals, tile_refusals}
use Rattle.answers.specs.Cells.{overwrite}
use Rattle.answers.specs.After.{room_refusals, room_for}
use Rattle.answers.proofs.P1.{keys, classes, glare, keys-sparse, classes-sparse, old}
use Rattle.key.specs.Spread.{spread_to, spread}
use Rattle.key.specs.Picture.{place}
use Rattle.key.specs.Key.{pixel_key, block_key}
use Rattle.key.specs.Form.{from, form_of}
use Rattle.window.specs.Window.{beyond, outside, window_refusals}
use Rattle.window.specs.Drawn.{drawn_refusals, drawn_for}
use Rattle.window.specs.Blocks.{floor, lies, fits, exponent, corner, across, rows, is_corner, maximal}
use Rattle.window.specs.Keys.{key_of, keys_of}
use Rattle.window.proofs.P1.{W}
use Rattle.decompose.specs.Decompose.{decompose_tiled}
use Rattle.map.specs.Spans as spans
use Rattle.map.specs.Spans.{within}
use Rattle.map.specs.Check.{late, refusals_from, map_refusals_in}
use Rattle.map.specs.Records.{record_of, exponent_of}
use Rattle.map.specs.Classes.{not_seen, class_over, class_in}
use Rattle.map.specs.Runs.{run_of}
use Rattle.border.specs.Openings.{is_handed, Opening, made, opening, open_from, openings, handed_count, cells_of}
use Rattle.border.specs.Promises.{openings_in, HandedBy, SkippedFor, bringing, Unmet, Enough}
use Rattle.used.specs.Used.{use_refusals_in, spent, used_in, border_refusals}
use Rattle.open.specs.Open.{open_in}
use Rattle.open.proofs.Examples as opens
use Rattle.many.proofs.Examples.{drawn, below, pixel, lines}
use Rattle.many.proofs.Examples as lists
use Rattle.why.proofs.Examples as reasons
use Rattle.month.specs.Promises.{month_of}
use Rattle.month.proofs.P1.{empty, first-day}
use Rattle.month.proofs.Examples.{examples}
use Rattle.exist.proofs.Examples as queries
use Rattle.lutniorad.specs.Numbers.{refused, values, reason}
use Rattle.lutniorad.specs.Calls.{Decompose, DecomposeTiled, Open, OpenTiled, Windows, WhyRecord, WhyBlock, Exist, MonthClear, MonthAdd, SparseOpen, SparseExist}
use Rattle.lutniorad.specs.Promises.{DecomposePromise, OpenPromise, SomePixelBy, SomePixel}
use Rattle.lutniorad.specs.ManyPromises.{WindowsPromise}
use Rattle.lutniorad.specs.MonthPromises.{MonthRow, cleared, added}
use Rattle.lutniorad.specs.MonthPromises as months
use Rattle.lutniorad.specs.SparsePromises.{SparseOpenPromise}
use Rattle.lutniorad.proofs.Crossing.{crossing-known}
use Rattle.lutniorad.proofs.Decomposing.{decompose-promise}
use Rattle.lutniorad.proofs.Opening.{open-promise}
use Rattle.lutniorad.proofs.Windows.{windows-promise}
use Rattle.lutniorad.proofs.Reasons.{why-record-list, why-block-list}
use Rattle.lutniorad.proofs.Asked.{exist-promise}
use Rattle.lutniorad.proofs.Row.{month-table}
use Rattle.lutniorad.proofs.Sparse.{sparse-open-promise}

abbrev cells : List ℕ
cells = 7 ∷ 0 ∷ 1 ∷ 10 ∷ 1 ∷ 4 ∷ 17 ∷ 5 ∷ 1 ∷ 21 ∷ 6 ∷ 1 ∷ []

abbrev blocks : List ℕ
blocks = 7 ∷ 10 ∷ 9 ∷ 17 ∷ 21 ∷ 22 ∷ []

-- and with tiles of one pixel
abbrev single : List ℕ
single = 7 ∷ 0 ∷ 1 ∷ 11 ∷ 1 ∷ 1 ∷ 12 ∷ 2 ∷ 1 ∷ 13 ∷ 3 ∷ 1 ∷ 14 ∷ 4 ∷ 1 ∷ 17 ∷ 5 ∷ 1 ∷ 21 ∷ 6 ∷ 1 ∷ []

record Called : Type 0 where
  p1 : Open 2 keys classes W (old 3) (old 12) (values 4 7) (3 ∷ 3 ∷ 3 ∷ []) cells
  p2 : Decompose 2 W (old 6) (values 6 0) blocks
  p1-pixels : OpenTiled 2 0 keys classes W (old 3) (old 21) (values 7 7) (3 ∷ 3 ∷ 3 ∷ []) single
  p2-pixels : DecomposeTiled 2 0 W (old 9) (values 9 0) (7 ∷ 11 ∷ 12 ∷ 9 ∷ 13 ∷ 14 ∷ 17 ∷ 21 ∷ 22 ∷ [])

called : Called
unfolding picture_refusals count_refusals room_refusals border_refusals room_for answer wrong_count size_refusals_in overwrite up_from spread_to spread place
    pixel_key block_key from form_of beyond outside window_refusals keep floor lies fits greatest exponent corner across rows is_corner maximal key_of
    keys_of drawn_refusals drawn_for tile_refusals decompose_tiled spans.malformed spans.form_exponent spans.start spans.end spans.holds spans.overlap late refusals_from
    map_refusals_in before how_many record_of exponent_of run_of any within is_handed opening open_from openings handed_count cells_of use_refusals_in spent used_in
    open_in
called = record {
  p1 = record { answer = refl; cells = refl };
  p2 = record { answer = refl; cells = refl };
  p1-pixels = record { answer = refl; cells = refl };
  p2-pixels = record { answer = refl; cells = refl };
}

abbrev p1-list : List Opening
p1-list = made 7 0 1 ∷ made 10 1 4 ∷ made 17 5 1 ∷ made 21 6 1 ∷ []

p1-promise : OpenPromise 2 2 keys W (old 3) (old 12) p1-list (values 4 7) (3 ∷ 3 ∷ 3 ∷ []) cells
unfolding openings_in
p1-promise = open-promise 2 2 keys classes W (old 3) (old 12) called.p1 refl

-- P1's record 5, and block 9 of P2: what is said of them is so of the list that stands in P1's cells
record-call : WhyRecord 2 keys classes W 5 (old 3) (reason 1 5 2) (3 ∷ 3 ∷ 3 ∷ [])
record-call = crossing-known refl (sym (reasons.examples).fifth)

record-handed : HandedBy p1-list 2 5
unfolding openings_in
record-handed = ((why-record-list 2 keys classes W (old 3) (old 12) called.p1 refl 5 (old 3) record-call refl).handed 2).0 refl

block-call : WhyBlock 2 keys classes W 9 (old 3) (reason 7 0 0) (3 ∷ 3 ∷ 3 ∷ [])
block-call = crossing-known refl (sym (reasons.examples).skipped)

block-skipped : SkippedFor 2 2 keys W p1-list 9 0 0
unfolding openings_in
block-skipped = ((why-block-list 2 keys classes W (old 3) (old 12) called.p1 refl 9 (old 3) block-call refl).skipped 0 0).0 refl

-- with tiles of one pixel no choice of fewer than seven brings all the records
pixels-fewest : (s : List ℕ) → Enough 2 0 keys W s → 7 ≤ length s
unfolding openings_in
pixels-fewest s = (open-promise 2 0 keys classes W (old 3) (old 21) called.p1-pixels refl).fewest s

p2-promise : DecomposePromise 2 2 W (old 6) (values 6 0) blocks
p2-promise = decompose-promise 2 2 W (old 6) called.p2 refl

-- P1's window, one that is refused and one pixel, in one call
many-call : Windows 2 keys classes (drawn ++ below ++ pixel) (old 4) (old 16) (values 3 0) (4 ∷ 3 ∷ 3 ∷ 99 ∷ []) lines
many-call = crossing-known refl (sym (lists.examples).done)

many-promise : WindowsPromise 2 keys classes (drawn ++ below ++ pixel) (old 4) (old 16) (values 3 0) (4 ∷ 3 ∷ 3 ∷ 99 ∷ []) lines
many-promise = windows-promise 2 keys classes (drawn ++ below ++ pixel) (old 4) (old 16) many-call refl

-- so the first line begins as P1 says by itself
many-first : 0 ∷ 0 ∷ 4 ∷ 7 ∷ [] ≡ (values 4 7).refusal ∷ (values 4 7).place ∷ (values 4 7).first ∷ (values 4 7).second ∷ []
many-first = many-promise.opened 0 (omega arith) (old 3) (old 12) called.p1 (λ e. omega (arith, e), λ e. omega (arith, e))

-- class 4 in P1's window, where a part was not seen: none was seen with it, and some pixel was not seen
exist-call : Exist 2 keys glare W 4 (old 4) (values 2 0) (3 ∷ 3 ∷ 3 ∷ 99 ∷ [])
exist-call = crossing-known refl (sym (queries.examples).cannot-tell)

none_seen : (¬ SomePixel 2 keys glare W 4) × SomePixel 2 keys glare W not_seen
none_seen = (exist-promise true (class_in 2 keys glare) 2 keys glare W 4 (old 4) exist-call refl).cannot-tell.0 refl

-- a month is cleared, P1's map is taken, and a record that is malformed is refused: from the examples of the operations
month-row : MonthRow 2 W (old 1031) ((keys, classes) ∷ []) (first-day ++ 99 ∷ [])
month-row =
    let clears : MonthClear 2 W (old 1031) (values 0 0) (empty ++ 99 ∷ []) = crossing-known refl (sym examples.clears) in
    let takes : MonthAdd 2 keys classes (old 4) (empty ++ 99 ∷ []) (values 1 0) (3 ∷ 3 ∷ 3 ∷ 99 ∷ []) (first-day ++ 99 ∷ []) = crossing-known refl (sym examples.adds) in
    let refuses : MonthAdd 2 (1 ∷ []) (3 ∷ []) (old 3) (first-day ++ 99 ∷ []) (refused 3 0) (old 3) (first-day ++ 99 ∷ []) = crossing-known refl (sym examples.refuses) in
    months.refused (added (cleared clears refl) 2 keys classes (old 4) takes refl) 2 (1 ∷ []) (3 ∷ []) (old 3) refuses (λ e. omega (arith, e))

-- so the table is that of the one map
month-is : first-day ++ 99 ∷ [] ≡ overwrite (month_of 2 W ((keys, classes) ∷ [])) (old 1031)
month-is = month-table month-row

-- ---- P1's map without its records of class 1

abbrev gapped-cells : List ℕ
gapped-cells = 7 ∷ 0 ∷ 0 ∷ 10 ∷ 0 ∷ 3 ∷ 9 ∷ 0 ∷ 0 ∷ 17 ∷ 0 ∷ 0 ∷ 21 ∷ 3 ∷ 1 ∷ 99 ∷ []

abbrev gapped-list : List Opening
gapped-list = made 7 0 0 ∷ made 10 0 3 ∷ made 9 0 0 ∷ made 17 0 0 ∷ made 21 3 1 ∷ []

gapped-call : SparseOpen 2 2 keys-sparse classes-sparse W (take 4 opens.old) (old 16) (values 5 4) (3 ∷ 3 ∷ 3 ∷ 93 ∷ []) gapped-cells
gapped-call = crossing-known refl (sym (opens.gaps).done)

gapped-promise : SparseOpenPromise 2 2 keys-sparse W (take 4 opens.old) (old 16) gapped-list (values 5 4) (3 ∷ 3 ∷ 3 ∷ 93 ∷ []) gapped-cells
unfolding openings_in
gapped-promise = sparse-open-promise 2 2 keys-sparse classes-sparse W (take 4 opens.old) (old 16) gapped-call refl

-- no record overlaps block 9, and no choice of fewer than two blocks brings all the records
gapped-9 : Unmet 2 keys-sparse 9
gapped-9 = ((gapped-promise.empty 9).0 (Memᴰ.tail (Memᴰ.tail (Memᴰ.head refl)))).1

gapped-two : (s : List ℕ) → Enough 2 2 keys-sparse W s → 2 ≤ length s
unfolding bringing keep
gapped-two s = gapped-promise.fewest s

-- over a background of 255 the gaps were not seen
unseen-call : SparseExist 2 255 keys-sparse classes-sparse W 4 (old 3) (values 2 0) (3 ∷ 3 ∷ 3 ∷ [])
unseen-call = crossing-known refl (sym (queries.gaps).unseen)

gaps-unseen : SomePixelBy (class_over 255 2 keys-sparse classes-sparse) W not_seen
gaps-unseen = ((exist-promise false (class_over 255 2 keys-sparse classes-sparse) 2 keys-sparse classes-sparse W 4 (old 3) unseen-call refl).cannot-tell.0 refl).1
