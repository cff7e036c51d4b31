-- Many windows, in examples: on the map of P1, with its window, one that is not inside the picture, and one pixel.
-- Assumes nothing.
use mathlib.Core.Path.{◌≡◌, refl}
use mathlib.Core.List.{List, [], ◌∷◌, ◌++◌}
use Prim.Native.Nat.{ℕ}
use native.Mathlib.Omega.{arith}
use lib.ListN.{take, replicate}
use Rattle.lists.specs.Lists.{up_from, greatest_of, any, keep, before, how_many, greatest}
use Rattle.std.specs.Prelude.{Ok}
use Rattle.answers.specs.declared.Cause.TheVariants.{Gap, ShortBorder, ShortRoom, BadWindowList}
use Rattle.answers.specs.Refusals.{answer, refuse}
use Rattle.answers.specs.Sizes.{wrong_count, size_refusals_in, picture_refusals, count_refusals}
use Rattle.answers.specs.Cells.{overwrite}
use Rattle.answers.specs.After.{after, room_refusals}
use Rattle.answers.proofs.Laws.{refused-not-passed}
use Rattle.answers.proofs.P1.{keys, old}
use Rattle.key.specs.Spread.{spread_to, spread}
use Rattle.key.specs.Picture.{place}
use Rattle.key.specs.Key.{pixel_key, block_key}
use Rattle.key.specs.Form.{from, form_of}
use Rattle.window.specs.Window.{beyond, outside, window_refusals}
use Rattle.window.specs.Blocks.{floor, lies, fits, exponent, corner, across, rows, is_corner, maximal}
use Rattle.window.specs.Keys.{key_of, keys_of}
use Rattle.map.specs.Spans as spans
use Rattle.map.specs.Spans.{within}
use Rattle.map.specs.Check.{late, refusals_from, map_refusals_in}
use Rattle.map.specs.Records.{record_of, exponent_of}
use Rattle.map.specs.Runs.{run_of}
use Rattle.border.specs.Openings.{is_handed, opening, open_from, openings, handed_count}
use Rattle.used.specs.Used.{spent, border_refusals}
use Rattle.many.specs.Many.{windows_in, wrong_list, list_refusals, columns, line_of, lines_of, left_by, widest, many_refusals, many_of}
use Rattle.many.specs.Promises.{InFours, Askable, LeftIn}
use Rattle.many.proofs.Border.{left-cell}
use Rattle.many.proofs.Tables.{list_right, many-askable}

-- P1's window; one that reaches below the picture, and is wider; and the pixel in the last row and the first column
abbrev pub drawn : List ℕ
drawn = 0 ∷ 1 ∷ 3 ∷ 3 ∷ []

abbrev pub below : List ℕ
below = 2 ∷ 0 ∷ 3 ∷ 4 ∷ []

abbrev pub pixel : List ℕ
pixel = 3 ∷ 0 ∷ 1 ∷ 1 ∷ []

-- their lines, and a cell behind them
abbrev pub lines : List ℕ
lines = 0 ∷ 0 ∷ 4 ∷ 7 ∷ 9 ∷ 6 ∷ 0 ∷ 0 ∷ 0 ∷ 0 ∷ 0 ∷ 0 ∷ 1 ∷ 1 ∷ 1 ∷ 99 ∷ []

pub record Examples : Type 0 where
  -- the second window is refused alone, and needs no border; the third leaves its row in the cell that it reaches
  pub done : many_of 2 keys 7 (drawn ++ below ++ pixel) (old 4) (old 16) ≡ after (Ok 3) (4 ∷ 3 ∷ 3 ∷ 99 ∷ [], lines)
  pub other-order : many_of 2 keys 7 (pixel ++ drawn) (old 3) (old 10) ≡ after (Ok 2) (3 ∷ 3 ∷ 3 ∷ [], 0 ∷ 0 ∷ 1 ∷ 1 ∷ 1 ∷ 0 ∷ 0 ∷ 4 ∷ 7 ∷ 9 ∷ [])
  pub none : many_of 2 keys 7 [] [] (old 1) ≡ after (Ok 0) ([], old 1)
  pub outside_alone : many_of 2 keys 7 below [] (old 5) ≡ after (Ok 1) ([], 6 ∷ 0 ∷ 0 ∷ 0 ∷ 0 ∷ [])
  -- refusals in their order: the map's, 25, 7 by the widest that 6 does not refuse, 8
  pub unsound : many_of 2 (take 6 keys) 6 (drawn ++ 0 ∷ []) [] [] ≡ after (refuse Gap 6) ([], [])
  pub not-fours : many_of 2 keys 7 (drawn ++ 0 ∷ []) [] [] ≡ after (refuse BadWindowList 0) ([], [])
  pub narrow : many_of 2 keys 7 (pixel ++ drawn ++ below) (old 2) [] ≡ after (refuse ShortBorder 3) (old 2, [])
  pub short : many_of 2 keys 7 (pixel ++ drawn ++ below) (old 3) (old 14) ≡ after (refuse ShortRoom 15) (old 3, old 14)
  pub askable : Askable 2 keys 7 (pixel ++ drawn ++ below) 3 15
  pub not-askable : Askable 2 keys 7 (pixel ++ drawn ++ below) 2 15 → ⊥
  -- 256 windows are taken, and one more is not
  pub most : list_refusals 1024 ≡ list_refusals 0
  pub in-fours : InFours (replicate 1024 0)
  pub too_many : many_of 2 keys 7 (replicate 1028 0) [] [] ≡ after (refuse BadWindowList 0) ([], [])
  -- what stands in the first border cell and in the last, and nothing else does
  pub left-first : LeftIn 2 (windows_in (drawn ++ below ++ pixel)) (old 4) 0 4
  pub left-beyond : LeftIn 2 (windows_in (drawn ++ below ++ pixel)) (old 4) 3 99
  pub not-the-first : LeftIn 2 (windows_in (drawn ++ below ++ pixel)) (old 4) 0 3 → ⊥

pub examples : Examples
unfolding picture_refusals count_refusals border_refusals room_refusals answer wrong_count size_refusals_in overwrite up_from greatest_of spread_to spread place
    pixel_key block_key from form_of beyond outside window_refusals keep floor lies fits greatest exponent corner across rows is_corner maximal key_of
    keys_of spans.malformed spans.form_exponent spans.start spans.end spans.holds spans.overlap late refusals_from map_refusals_in before how_many record_of
    exponent_of run_of any within is_handed opening open_from openings handed_count spent
    windows_in wrong_list list_refusals columns line_of lines_of left_by widest many_refusals many_of
examples = record {
  done = refl;
  other-order = refl;
  none = refl;
  outside_alone = refl;
  unsound = refl;
  not-fours = refl;
  narrow = refl;
  short = refl;
  askable = (many-askable 2 keys 7 (pixel ++ drawn ++ below) 3 15).0 refl;
  not-askable = λ A. refused-not-passed ((many-askable 2 keys 7 (pixel ++ drawn ++ below) 2 15).1 A);
  most = refl;
  in-fours = (list_right (replicate 1024 0)).0 refl;
  too_many = refl;
  left-first = (left-cell 2 (windows_in (drawn ++ below ++ pixel)) (old 4) 0 4).0 refl;
  left-beyond = (left-cell 2 (windows_in (drawn ++ below ++ pixel)) (old 4) 3 99).0 refl;
  not-the-first = λ L. let other : ◌≡◌ {A = ℕ} 4 3 = (left-cell 2 (windows_in (drawn ++ below ++ pixel)) (old 4) 0 3).1 L in omega arith;
}
