-- Why a record or a maximal block is on the list or is not, in examples: on the map of P1.
-- Assumes nothing.
use mathlib.Core.Path.{◌≡◌, refl}
use mathlib.Core.List.{[], ◌∷◌}
use Rattle.std.specs.Prelude.{Ok}
use Rattle.lists.specs.Lists.{up_from, any, all, keep, before, how_many, greatest}
use Rattle.answers.specs.declared.Cause.TheVariants.{ShortBorder, NoRecord, NotMaximal}
use Rattle.answers.specs.Refusals.{answer, refuse}
use Rattle.answers.specs.Sizes.{wrong_count, size_refusals_in, picture_refusals, count_refusals}
use Rattle.answers.specs.Cells.{overwrite}
use Rattle.answers.specs.After.{after}
use Rattle.answers.proofs.P1.{keys, old}
use Rattle.window.specs.declared.Window.{Window}
use Rattle.key.specs.Spread.{spread_to, spread}
use Rattle.key.specs.Picture.{place}
use Rattle.key.specs.Key.{pixel_key, block_key}
use Rattle.key.specs.Form.{from, form_of}
use Rattle.window.specs.Window.{window, beyond, outside, window_refusals}
use Rattle.window.specs.Blocks.{floor, lies, fits, exponent, corner, across, rows, is_corner, maximal}
use Rattle.window.specs.Keys.{key_of, keys_of}
use Rattle.window.proofs.P1.{W}
use Rattle.map.specs.Spans as spans
use Rattle.map.specs.Check.{late, refusals_from, map_refusals_in}
use Rattle.map.specs.Records.{record_of, exponent_of}
use Rattle.map.specs.Runs.{run_of}
use Rattle.border.specs.Openings.{is_handed, opening, open_from, openings}
use Rattle.used.specs.Used.{use_refusals_in, border_refusals, spent}
use Rattle.why.specs.declared.Why.TheVariants.{Handed, Outside, Opened, Skipped}
use Rattle.why.specs.declared.Side.TheVariants.{North, South, West, East}
use Rattle.why.specs.Why.{pixels_of, first_side, lies_of, hands_out, bringer, said_of, record_said, opens_at, block_said, index_refusals, key_refusals, why_for, why_record_of, why_block_of}

-- one pixel, in row 2, column 1; and one in row 1, column 2, so that the quarter in the south-west lies south and west of it
abbrev inner : Window
inner = window 2 1 1 1

abbrev upper : Window
upper = window 1 2 1 1

pub record Examples : Type 0 where
  pub first : why_record_of 2 keys 7 W 0 (old 4) ≡ after (Ok (Handed 0 0)) (3 ∷ 3 ∷ 3 ∷ 99 ∷ [])
  pub inside : why_record_of 2 keys 7 W 4 (old 3) ≡ after (Ok (Handed 4 1)) (3 ∷ 3 ∷ 3 ∷ [])
  pub fifth : why_record_of 2 keys 7 W 5 (old 3) ≡ after (Ok (Handed 5 2)) (3 ∷ 3 ∷ 3 ∷ [])
  -- outside
  pub north : why_record_of 2 keys 7 inner 0 (old 1) ≡ after (Ok (Outside 0 North)) (3 ∷ [])
  pub east : why_record_of 2 keys 7 inner 6 (old 2) ≡ after (Ok (Outside 6 East)) (3 ∷ 99 ∷ [])
  pub west : why_record_of 2 keys 7 upper 0 (old 1) ≡ after (Ok (Outside 0 West)) (2 ∷ [])
  -- north and east, and south and west: the first that is true
  pub north-and-east : why_record_of 2 keys 7 inner 1 (old 1) ≡ after (Ok (Outside 1 North)) (3 ∷ [])
  pub south-and-west : why_record_of 2 keys 7 upper 5 (old 1) ≡ after (Ok (Outside 5 South)) (2 ∷ [])
  -- there are seven records
  pub last : why_record_of 2 keys 7 W 6 (old 3) ≡ after (Ok (Handed 6 3)) (3 ∷ 3 ∷ 3 ∷ [])
  pub none : why_record_of 2 keys 7 W 7 (old 3) ≡ after (refuse NoRecord 0) (old 3)
  pub narrow : why_record_of 2 keys 7 W 7 (old 2) ≡ after (refuse ShortBorder 3) (old 2)
  -- P2's blocks
  pub opened : why_block_of 2 keys 7 W 10 (old 4) ≡ after (Ok (Opened 1)) (3 ∷ 3 ∷ 3 ∷ 99 ∷ [])
  pub skipped : why_block_of 2 keys 7 W 9 (old 3) ≡ after (Ok (Skipped 0 0)) (3 ∷ 3 ∷ 3 ∷ [])
  pub skipped-last : why_block_of 2 keys 7 W 22 (old 3) ≡ after (Ok (Skipped 6 3)) (3 ∷ 3 ∷ 3 ∷ [])
  -- of a block in the window that is not maximal, of one that is not in the window, and of no block
  pub smaller : why_block_of 2 keys 7 W 11 (old 3) ≡ after (refuse NotMaximal 0) (old 3)
  pub elsewhere : why_block_of 2 keys 7 W 15 (old 3) ≡ after (refuse NotMaximal 0) (old 3)
  pub malformed : why_block_of 2 keys 7 W 4 (old 3) ≡ after (refuse NotMaximal 0) (old 3)

pub examples : Examples
unfolding up_from any all keep before how_many greatest answer wrong_count size_refusals_in picture_refusals count_refusals overwrite spread_to spread place pixel_key block_key from form_of
    beyond outside window_refusals floor lies fits exponent corner across rows is_corner maximal key_of keys_of spans.malformed spans.form_exponent spans.start spans.end spans.holds
    spans.within spans.overlap late refusals_from map_refusals_in record_of exponent_of run_of is_handed opening open_from openings use_refusals_in border_refusals spent
    pixels_of first_side lies_of hands_out bringer said_of record_said opens_at block_said index_refusals key_refusals why_for
examples = record {
  first = refl;
  inside = refl;
  fifth = refl;
  north = refl;
  east = refl;
  west = refl;
  north-and-east = refl;
  south-and-west = refl;
  last = refl;
  none = refl;
  narrow = refl;
  opened = refl;
  skipped = refl;
  skipped-last = refl;
  smaller = refl;
  elsewhere = refl;
  malformed = refl;
}
