-- Select, in examples: on the map and the window of P1.
-- Assumes nothing.
use mathlib.Core.Path.{◌≡◌, refl}
use mathlib.Core.List.{[], ◌∷◌}
use Rattle.lists.specs.Lists.{up_from, any, keep, greatest}
use Rattle.std.specs.Prelude.{Ok}
use Rattle.answers.specs.declared.Cause.TheVariants.{BadM, BadWindow, ShortRoom, BadTile}
use Rattle.answers.specs.Refusals.{refuse, answer}
use Rattle.answers.specs.Sizes.{wrong_count, size_refusals_in, picture_refusals, count_refusals, tile_refusals}
use Rattle.answers.specs.Cells.{overwrite}
use Rattle.answers.specs.After.{after, room_refusals, room_for}
use Rattle.answers.proofs.P1.{keys, classes, old}
use Rattle.key.specs.Spread.{spread_to, spread}
use Rattle.key.specs.Key.{pixel_key, block_key}
use Rattle.key.specs.Form.{from, form_of}
use Rattle.window.specs.Window.{window, beyond, outside, window_refusals}
use Rattle.window.specs.Blocks.{floor, lies, fits, exponent, corner, across, rows, is_corner, maximal}
use Rattle.window.specs.Keys.{key_of, keys_of}
use Rattle.window.proofs.P1.{W}
use Rattle.map.specs.Spans as spans
use Rattle.map.specs.Spans.{within}
use Rattle.map.specs.Check.{late, refusals_from, map_refusals_in}
use Rattle.used.specs.Used.{use_refusals_in, spent, used_in, border_refusals}
use Rattle.select.specs.Select.{around, inside, selected, all_selected, selection, select_of, select_tiled, select_keys}

pub record Examples : Type 0 where
  pub select_short : select_of 2 keys classes W 1 (old 3) (old 3) ≡ after (refuse ShortRoom 4) (3 ∷ 3 ∷ 3 ∷ [], old 3)
  pub select-none : select_of 2 keys classes W 4 (old 3) [] ≡ after (Ok 0) (3 ∷ 3 ∷ 3 ∷ [], [])
  pub outside-first : select_of 2 keys classes (window 2 0 3 1) 1 [] [] ≡ after (refuse BadWindow 0) ([], [])
  -- with tiles of one pixel the keys of P3 come row by row; 17 between 1 and 2
  pub pixels : select_tiled 2 0 keys classes W 1 (old 3) (old 4) ≡ after (Ok 4) (3 ∷ 3 ∷ 3 ∷ [], 7 ∷ 9 ∷ 14 ∷ 17 ∷ [])
  pub tile-over : select_tiled 2 3 [] classes (window 0 0 0 0) 1 [] [] ≡ after (refuse BadTile 0) ([], [])
  pub tile-next : select_tiled 13 14 [] classes (window 0 0 0 0) 1 [] [] ≡ after (refuse BadM 0) ([], [])
  -- a block that is a record of the class is listed once; one of another class is not
  pub own : selected 2 keys classes 3 13 ≡ 13 ∷ []
  pub other : selected 2 keys classes 1 13 ≡ []

pub examples : Examples
unfolding picture_refusals count_refusals border_refusals room_refusals room_for answer wrong_count size_refusals_in overwrite up_from spread_to spread pixel_key
    block_key from form_of beyond outside window_refusals keep floor lies fits greatest exponent corner across rows is_corner maximal key_of keys_of
    spans.malformed spans.form_exponent spans.start spans.end late refusals_from map_refusals_in any within use_refusals_in spent around inside selected
    all_selected selection used_in tile_refusals select_keys
examples = record {
  select_short = refl;
  select-none = refl;
  outside-first = refl;
  pixels = refl;
  tile-over = refl;
  tile-next = refl;
  own = refl;
  other = refl;
}
