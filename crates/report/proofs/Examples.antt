-- Report, in examples: on the map and the window of P1, and on parts of that window.
-- Assumes nothing.
use mathlib.Core.Path.{◌≡◌, refl}
use mathlib.Core.Bool.{false}
use mathlib.Core.List.{List, [], ◌∷◌}
use Prim.Native.Nat.{ℕ}
use lib.ListN.{take, replicate}
use Rattle.lists.specs.Lists.{up_from, before, how_many}
use Rattle.std.specs.Prelude.{Ok}
use Rattle.answers.specs.declared.Cause.TheVariants.{ShortBorder, ShortRoom}
use Rattle.answers.specs.Refusals.{refuse, answer}
use Rattle.answers.specs.Sizes.{wrong_count, size_refusals_in, picture_refusals, count_refusals}
use Rattle.answers.specs.Cells.{overwrite}
use Rattle.answers.specs.After.{after, room_refusals, room_for}
use Rattle.answers.proofs.P1.{keys, classes, old, keys-sparse, classes-sparse}
use Rattle.key.specs.Spread.{spread_to, spread}
use Rattle.key.specs.Picture.{place}
use Rattle.key.specs.Form.{from, form_of}
use Rattle.window.specs.Window.{window, beyond, outside, window_refusals}
use Rattle.window.specs.Blocks.{across, rows}
use Rattle.window.specs.Rules.{total_by, totals_by}
use Rattle.window.proofs.P1.{W, column, columns, row, lower, first_two, middle, pixel, north-west, south-east}
use Rattle.map.specs.Spans as spans
use Rattle.map.specs.Classes.{class_over}
use Rattle.map.specs.Check.{late, refusals_from, map_refusals_in}
use Rattle.map.specs.Records.{record_of}
use Rattle.used.specs.Used.{use_refusals_in, spent, used_in, border_refusals}
use Rattle.totals.specs.Totals.{totals}
use Rattle.report.specs.Report.{report_of, report_in}

-- the cells of a report on P1's map: so many pixels of the classes 1, 2 and 3
abbrev pub counts : ℕ → ℕ → ℕ → List ℕ
counts one two three = 0 ∷ one ∷ two ∷ three ∷ replicate 252 0

pub record Examples : Type 0 where
  -- a record that sticks out of the window counts with its part inside: one pixel of four
  pub part : take 9 (totals 2 keys classes (window 0 1 1 1)) ≡ 0 ∷ 1 ∷ 0 ∷ 0 ∷ 0 ∷ 0 ∷ 0 ∷ 0 ∷ 0 ∷ []
  -- 8 spends the border and leaves the slice; a slice of no cells is enough for no key
  pub report-short : report_of 2 keys classes W (old 3) (old 255) ≡ after (refuse ShortRoom 256) (3 ∷ 3 ∷ 3 ∷ [], old 255)
  -- 7 comes before 8 and writes nothing, 6 before 7
  pub narrow : report_of 2 keys classes W (old 2) [] ≡ after (refuse ShortBorder 3) (old 2, [])
  pub whole : report_of 2 keys classes W (old 3) (old 256) ≡ after (Ok 9) (3 ∷ 3 ∷ 3 ∷ [], counts 4 4 1)
  -- the map without its records of class 1, over a background of class 1; and over one of class 0
  pub gapped : report_in false (class_over 1 2 keys-sparse classes-sparse) 2 keys-sparse 4 W (old 3) (old 256) ≡ after (Ok 9) (3 ∷ 3 ∷ 3 ∷ [], counts 4 4 1)
  pub other-gaps : report_in false (class_over 0 2 keys-sparse classes-sparse) 2 keys-sparse 4 W (old 3) (old 256)
      ≡ after (Ok 9) (3 ∷ 3 ∷ 3 ∷ [], 4 ∷ 0 ∷ 4 ∷ 1 ∷ replicate 252 0)
  -- parts of that window
  pub in-column : report_of 2 keys classes column (old 3) (old 256) ≡ after (Ok 3) (3 ∷ 99 ∷ 99 ∷ [], counts 3 0 0)
  pub in-columns : report_of 2 keys classes columns (old 3) (old 256) ≡ after (Ok 6) (3 ∷ 3 ∷ 99 ∷ [], counts 1 4 1)
  pub in_row : report_of 2 keys classes row (old 3) (old 256) ≡ after (Ok 3) (1 ∷ 1 ∷ 1 ∷ [], counts 1 2 0)
  pub in-lower : report_of 2 keys classes lower (old 3) (old 256) ≡ after (Ok 6) (3 ∷ 3 ∷ 3 ∷ [], counts 3 2 1)
  pub in-first-two : report_of 2 keys classes first_two (old 3) (old 256) ≡ after (Ok 6) (3 ∷ 3 ∷ 99 ∷ [], counts 3 2 1)
  pub in-middle : report_of 2 keys classes middle (old 3) (old 256) ≡ after (Ok 3) (3 ∷ 99 ∷ 99 ∷ [], counts 0 2 1)
  pub in-pixel : report_of 2 keys classes pixel (old 3) (old 256) ≡ after (Ok 1) (2 ∷ 99 ∷ 99 ∷ [], counts 0 0 1)
  pub in-north-west : report_of 2 keys classes north-west (old 3) (old 256) ≡ after (Ok 4) (2 ∷ 2 ∷ 99 ∷ [], counts 2 1 1)
  pub in-south-east : report_of 2 keys classes south-east (old 3) (old 256) ≡ after (Ok 4) (3 ∷ 3 ∷ 99 ∷ [], counts 1 2 1)

pub examples : Examples
unfolding picture_refusals count_refusals border_refusals room_refusals room_for answer wrong_count size_refusals_in overwrite up_from spread_to spread place from
    form_of beyond outside window_refusals across rows spans.malformed spans.form_exponent spans.start spans.end spans.holds late refusals_from
    map_refusals_in before how_many record_of use_refusals_in spent total_by totals_by used_in report_in
examples = record {
  part = refl;
  report-short = refl;
  narrow = refl;
  whole = refl;
  gapped = refl;
  other-gaps = refl;
  in-column = refl;
  in-columns = refl;
  in_row = refl;
  in-lower = refl;
  in-first-two = refl;
  in-middle = refl;
  in-pixel = refl;
  in-north-west = refl;
  in-south-east = refl;
}
