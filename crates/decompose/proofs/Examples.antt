-- Decomposing, in examples.
-- Assumes nothing.
use mathlib.Core.Path.{◌≡◌, refl}
use mathlib.Core.List.{List, [], ◌∷◌}
use Prim.Native.Nat.{ℕ}
use Rattle.std.specs.Prelude.{Ok}
use Rattle.lists.specs.Lists.{keep, greatest}
use Rattle.answers.specs.declared.Cause.TheVariants.{BadM, BadWindow, ShortRoom, BadTile}
use Rattle.answers.specs.Refusals.{answer, refuse}
use Rattle.answers.specs.Sizes.{picture_refusals, tile_refusals}
use Rattle.answers.specs.Cells.{overwrite}
use Rattle.answers.specs.After.{after, room_refusals}
use Rattle.key.specs.Spread.{spread_to, spread}
use Rattle.key.specs.Key.{pixel_key, block_key}
use Rattle.window.specs.Window.{window, beyond, outside, window_refusals}
use Rattle.window.specs.Drawn.{drawn_refusals, drawn_for}
use Rattle.window.specs.Blocks.{floor, lies, fits, exponent, corner, across, rows, is_corner, maximal}
use Rattle.window.specs.Keys.{key_of, keys_of}
use Rattle.decompose.specs.Decompose.{decompose_of, decompose_tiled}

abbrev six : List ℕ
six = 1 ∷ 2 ∷ 3 ∷ 4 ∷ 5 ∷ 6 ∷ []

pub record Examples : Type 0 where
  -- decomposing: room for six keys, and for a cell beyond; room for five; refusals 1 and 6 before 8
  pub done : decompose_of 2 (window 0 1 3 3) (0 ∷ six) ≡ after (Ok 6) (7 ∷ 10 ∷ 9 ∷ 17 ∷ 21 ∷ 22 ∷ 6 ∷ [])
  pub short : decompose_of 2 (window 0 1 3 3) (1 ∷ 2 ∷ 3 ∷ 4 ∷ 5 ∷ []) ≡ after (refuse ShortRoom 6) (1 ∷ 2 ∷ 3 ∷ 4 ∷ 5 ∷ [])
  pub large : decompose_of 13 (window 0 0 0 0) six ≡ after (refuse BadM 0) six
  pub empty : decompose_of 2 (window 0 0 0 1) [] ≡ after (refuse BadWindow 0) []
  -- with a tile: the picture in four of side 2, and each pixel by itself; 17 between 1 and 6
  pub quarters : decompose_tiled 2 1 (window 0 0 4 4) six ≡ after (Ok 4) (5 ∷ 10 ∷ 15 ∷ 20 ∷ 5 ∷ 6 ∷ [])
  pub pixels : decompose_tiled 2 0 (window 0 1 3 2) six ≡ after (Ok 6) (7 ∷ 11 ∷ 9 ∷ 13 ∷ 17 ∷ 21 ∷ [])
  pub tile-over : decompose_tiled 2 3 (window 0 0 0 0) six ≡ after (refuse BadTile 0) six
  pub tile-next : decompose_tiled 13 14 (window 0 0 0 0) six ≡ after (refuse BadM 0) six

pub examples : Examples
unfolding picture_refusals room_refusals answer overwrite spread_to spread pixel_key block_key beyond outside window_refusals keep floor lies fits greatest exponent corner across rows
    is_corner maximal key_of keys_of drawn_refusals drawn_for tile_refusals decompose_tiled
examples = record {
  done = refl;
  short = refl;
  large = refl;
  empty = refl;
  quarters = refl;
  pixels = refl;
  tile-over = refl;
  tile-next = refl;
}
