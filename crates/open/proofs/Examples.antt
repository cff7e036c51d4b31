-- Opening, in examples: on the map and the window of P1.
-- Assumes nothing.
use mathlib.Core.Path.{◌≡◌, refl}
use mathlib.Core.Bool.{true, false}
use mathlib.Core.List.{List, [], ◌∷◌}
use Prim.Native.Nat.{ℕ}
use native.Mathlib.Omega.{arith}
use lib.ListN.{take}
use Rattle.lists.specs.Lists.{up_from, any, keep, before, how_many, greatest}
use Rattle.std.specs.Prelude.{Ok}
use Rattle.answers.specs.declared.Cause.TheVariants.{BadM, BadCount, Gap, BadWindow, ShortBorder, ShortRoom, BadTile}
use Rattle.answers.specs.Refusals.{answer, refuse}
use Rattle.answers.specs.Sizes.{wrong_count, size_refusals_in, picture_refusals, count_refusals, tile_refusals}
use Rattle.answers.specs.Cells.{overwrite}
use Rattle.answers.specs.After.{after, room_refusals, room_for}
use Rattle.answers.proofs.P1.{keys, keys-cut, keys-west, keys-sparse}
use Rattle.answers.proofs.P1.{old as cells}
use Rattle.key.specs.Spread.{spread_to, spread}
use Rattle.key.specs.Picture.{place}
use Rattle.key.specs.Key.{pixel_key, block_key}
use Rattle.key.specs.Form.{from, form_of}
use Rattle.window.specs.Window.{window, beyond, outside, window_refusals}
use Rattle.window.specs.Blocks.{floor, lies, fits, exponent, corner, across, rows, is_corner, maximal}
use Rattle.window.specs.Keys.{key_of, keys_of}
use Rattle.window.proofs.P1.{W, columns}
use Rattle.map.specs.Spans as spans
use Rattle.map.specs.Spans.{within}
use Rattle.map.specs.Check.{late, refusals_from, map_refusals_in}
use Rattle.map.specs.Records.{record_of, exponent_of}
use Rattle.map.specs.Runs.{run_of}
use Rattle.border.specs.Openings.{is_handed, opening, open_from, openings, handed_count, cells_of}
use Rattle.used.specs.Used.{use_refusals_in, spent, used_in, border_refusals}
use Rattle.used.specs.Promises.{Answerable}
use Rattle.used.proofs.Laws.{use-answerable}
use Rattle.open.specs.Open.{counted, open_of, open_tiled, open_in}

-- old contents of a border and of an answer slice
abbrev pub old : List ℕ
old = 90 ∷ 91 ∷ 92 ∷ 93 ∷ 94 ∷ 95 ∷ 96 ∷ 97 ∷ 98 ∷ 99 ∷ 100 ∷ 101 ∷ 102 ∷ []

pub record Examples : Type 0 where
  -- borders of two and of three cells, answer slices of 11 and of 12 cells
  pub narrow : open_of 2 keys 7 W (take 2 old) old ≡ after (refuse ShortBorder 3) (take 2 old, old)
  pub short : open_of 2 keys 7 W (take 3 old) (take 11 old) ≡ after (refuse ShortRoom 12) (3 ∷ 3 ∷ 3 ∷ [], take 11 old)
  pub done : open_of 2 keys 7 W (take 4 old) old ≡ after (Ok (counted 4 7)) (3 ∷ 3 ∷ 3 ∷ 93 ∷ [], 7 ∷ 0 ∷ 1 ∷ 10 ∷ 1 ∷ 4 ∷ 17 ∷ 5 ∷ 1 ∷ 21 ∷ 6 ∷ 1 ∷ 102 ∷ [])
  pub answerable : Answerable 2 keys 7 W 3
  pub not-answerable : Answerable 2 keys 7 W 2 → ⊥
  -- refusals in their order: the map's, then the window's, then the border's
  pub map_first : open_of 2 (take 6 keys) 6 (window 0 0 0 0) [] [] ≡ after (refuse Gap 6) ([], [])
  pub window-next : open_of 2 keys 7 (window 2 0 3 1) [] [] ≡ after (refuse BadWindow 0) ([], [])
  pub large : open_of 13 [] 7 (window 0 0 0 0) [] [] ≡ after (refuse BadM 0) ([], [])
  -- with tiles of one pixel each of the seven records has an opening of its own; 17 between 1 and 2
  pub pixels : open_tiled 2 0 keys 7 W (take 3 old) (take 3 old) ≡ after (refuse ShortRoom 21) (3 ∷ 3 ∷ 3 ∷ [], take 3 old)
  pub tile-over : open_tiled 2 3 [] 7 (window 0 0 0 0) [] [] ≡ after (refuse BadTile 0) ([], [])
  pub tile-next : open_tiled 13 14 [] 7 (window 0 0 0 0) [] [] ≡ after (refuse BadM 0) ([], [])
  -- the columns 2 and 3 alone; with other records in the west, only the first indices differ; with the last record cut in four, there is an opening more
  pub east : open_of 2 keys 7 columns (take 2 old) (take 7 old) ≡ after (Ok (counted 2 5)) (3 ∷ 3 ∷ [], 10 ∷ 1 ∷ 4 ∷ 21 ∷ 6 ∷ 1 ∷ 96 ∷ [])
  pub east-of-other : open_of 2 keys-west 10 columns (take 3 old) (take 6 old) ≡ after (Ok (counted 2 5)) (3 ∷ 3 ∷ 92 ∷ [], 10 ∷ 4 ∷ 4 ∷ 21 ∷ 9 ∷ 1 ∷ [])
  pub east-of-cut : open_of 2 keys-cut 10 columns (take 2 old) (take 9 old) ≡ after (Ok (counted 3 6)) (3 ∷ 3 ∷ [], 10 ∷ 1 ∷ 4 ∷ 21 ∷ 6 ∷ 1 ∷ 22 ∷ 7 ∷ 1 ∷ [])

-- on the map without its records of class 1
pub record Gapped : Type 0 where
  -- blocks 7, 9 and 17 overlap no record: they are opened with first index 0 and count 0, and counted
  pub done : open_in false 2 2 keys-sparse 4 W (take 4 old) (cells 16)
      ≡ after (Ok (counted 5 4)) (3 ∷ 3 ∷ 3 ∷ 93 ∷ [], 7 ∷ 0 ∷ 0 ∷ 10 ∷ 0 ∷ 3 ∷ 9 ∷ 0 ∷ 0 ∷ 17 ∷ 0 ∷ 0 ∷ 21 ∷ 3 ∷ 1 ∷ 99 ∷ [])
  pub short : open_in false 2 2 keys-sparse 4 W (take 3 old) (cells 14) ≡ after (refuse ShortRoom 15) (3 ∷ 3 ∷ 3 ∷ [], cells 14)
  -- without records each maximal block is opened
  pub none : open_in false 2 2 [] 0 (window 0 0 4 4) (take 4 old) (take 3 old) ≡ after (Ok (counted 1 0)) (4 ∷ 4 ∷ 4 ∷ 4 ∷ [], 0 ∷ 0 ∷ 0 ∷ [])
  -- where the map is to be whole, both are refused
  pub whole : open_of 2 keys-sparse 4 W (take 4 old) (take 7 old) ≡ after (refuse Gap 0) (take 4 old, take 7 old)
  pub empty : open_of 2 [] 0 W (take 4 old) (take 3 old) ≡ after (refuse BadCount 0) (take 4 old, take 3 old)

pub examples : Examples
unfolding picture_refusals count_refusals border_refusals room_refusals room_for answer wrong_count size_refusals_in overwrite up_from spread_to spread place
    pixel_key block_key from form_of beyond outside window_refusals keep floor lies fits greatest exponent corner across rows is_corner maximal key_of
    keys_of spans.malformed spans.form_exponent spans.start spans.end spans.holds spans.overlap late refusals_from map_refusals_in before how_many record_of
    exponent_of run_of any within is_handed opening open_from openings handed_count cells_of use_refusals_in spent used_in tile_refusals open_in
examples = record {
  narrow = refl;
  short = refl;
  done = refl;
  answerable = (use-answerable true 2 keys 7 W 3).0 refl;
  not-answerable = λ A. omega (arith, A.wide);
  map_first = refl;
  window-next = refl;
  large = refl;
  pixels = refl;
  tile-over = refl;
  tile-next = refl;
  east = refl;
  east-of-other = refl;
  east-of-cut = refl;
}

pub gaps : Gapped
unfolding picture_refusals count_refusals border_refusals room_refusals room_for answer wrong_count size_refusals_in overwrite up_from spread_to spread place
    pixel_key block_key from form_of beyond outside window_refusals keep floor lies fits greatest exponent corner across rows is_corner maximal key_of
    keys_of spans.malformed spans.form_exponent spans.start spans.end spans.holds spans.overlap late refusals_from map_refusals_in before how_many record_of
    exponent_of run_of any within is_handed opening open_from openings handed_count cells_of use_refusals_in spent used_in tile_refusals open_in
gaps = record { done = refl; short = refl; none = refl; whole = refl; empty = refl }
