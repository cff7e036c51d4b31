-- The checked examples P1 to P12, as one table under a single claim, computed from the definitions. P1's printed text is computed by the window program's definitions, and run.
-- Assumes nothing.
use mathlib.Core.Path.{◌≡◌, refl}
use mathlib.Core.List.{[], ◌∷◌, ◌++◌}
use lib.ListN.{length, take, drop, replicate}
use Rattle.std.specs.Prelude.{Ok}
use Rattle.answers.specs.declared.Cause.TheVariants.{BadKey, Overlap, Gap, BadWindow}
use Rattle.lists.specs.Lists.{up_from, any, keep, before, how_many, greatest}
use Rattle.answers.specs.Refusals.{answer, verdict, refuse}
use Rattle.answers.specs.Sizes.{wrong_count, size_refusals_in, picture_refusals, count_refusals, tile_refusals}
use Rattle.answers.specs.Cells.{overwrite}
use Rattle.answers.specs.After.{after, room_refusals, room_for}
use Rattle.answers.proofs.P1.{keys, classes, old}
use Rattle.key.specs.Spread.{spread_to, spread}
use Rattle.key.specs.Picture.{place}
use Rattle.key.specs.Key.{pixel_key, block_key}
use Rattle.key.specs.Form.{from, form_of}
use Rattle.window.specs.Window.{window, beyond, outside, window_refusals}
use Rattle.window.specs.Blocks.{floor, lies, fits, exponent, corner, across, rows, is_corner, maximal}
use Rattle.window.specs.Keys.{key_of, keys_of}
use Rattle.window.specs.Rules.{total_by, totals_by}
use Rattle.window.proofs.P1.{W}
use Rattle.map.specs.Spans as spans
use Rattle.map.specs.Spans.{within}
use Rattle.map.specs.Check.{late, refusals_from, map_refusals_in, check_in, check_of}
use Rattle.map.specs.Records.{record_of, exponent_of}
use Rattle.map.specs.Runs.{run_of}
use Rattle.border.specs.Openings.{is_handed, made, opening, open_from, openings, handed_count}
use Rattle.used.specs.Used.{use_refusals, use_refusals_in, spent, used_in, border_refusals}
use Rattle.numbers.specs.Numbers.{bytes, bytes_of}
use Rattle.house.specs.File.{header, file_of}
use Rattle.report.specs.Report.{report_of, report_in}
use Rattle.select.specs.Select.{around, inside, selected, all_selected, selection, select_of, select_keys}

pub record Table : Type 0 where
  pub p1-length : length (file_of 2 keys classes) ≡ 55
  pub p1-header : take 20 (file_of 2 keys classes) ≡ bytes_of (55 ∷ 2 ∷ 7 ∷ 20 ∷ 48 ∷ [])
  pub p1-openings : openings 2 2 keys W ≡ made 7 0 1 ∷ made 10 1 4 ∷ made 17 5 1 ∷ made 21 6 1 ∷ []
  pub p1-records : handed_count (openings 2 2 keys W) ≡ 7
  pub p1-counts : report_of 2 keys classes W (old 4) (old 257) ≡ after (Ok 9) (3 ∷ 3 ∷ 3 ∷ 99 ∷ [], 0 ∷ 4 ∷ 4 ∷ 1 ∷ replicate 252 0 ++ (99 ∷ []))
  pub p2 : keys_of 2 2 W ≡ 7 ∷ 10 ∷ 9 ∷ 17 ∷ 21 ∷ 22 ∷ []
  pub p3 : select_of 2 keys classes W 1 (old 3) (old 5) ≡ after (Ok 4) (3 ∷ 3 ∷ 3 ∷ [], 7 ∷ 14 ∷ 9 ∷ 17 ∷ 99 ∷ [])
  pub p4 : select_of 2 keys classes W 2 (old 3) (old 4) ≡ after (Ok 4) (3 ∷ 3 ∷ 3 ∷ [], 11 ∷ 12 ∷ 21 ∷ 22 ∷ [])
  pub p5 : openings 2 2 keys (window 0 0 4 4) ≡ made 0 0 7 ∷ []
  pub p6 : openings 0 0 (0 ∷ []) (window 0 0 1 1) ≡ made 0 0 1 ∷ []
  pub p7 : pixel_key 2 1 2 ≡ 13
  pub p8 : spread 5 255 ≡ 97656
  pub p9 : check_of 2 (take 6 keys) 6 ≡ refuse Gap 6
  pub p10 : check_of 2 (5 ∷ 7 ∷ []) 2 ≡ refuse Overlap 1
  pub p11-gap : check_of 2 (1 ∷ drop 1 keys) 7 ≡ refuse BadKey 0
  pub p11-large : check_of 2 (25 ∷ drop 1 keys) 7 ≡ refuse BadKey 0
  pub p12-refused : verdict (use_refusals 2 keys 7 (window 2 0 3 1) 1) ≡ refuse BadWindow 0
  pub p12-accepted : verdict (use_refusals 2 keys 7 (window 2 0 2 1) 1) ≡ Ok tt

pub table : Table
unfolding picture_refusals count_refusals border_refusals room_refusals room_for answer wrong_count size_refusals_in overwrite up_from spread_to spread place
    pixel_key block_key from form_of beyond outside window_refusals keep floor lies fits greatest exponent corner across rows is_corner maximal key_of
    keys_of spans.malformed spans.form_exponent spans.start spans.end spans.holds spans.overlap late refusals_from map_refusals_in check_in before how_many
    record_of exponent_of run_of any within is_handed opening open_from openings handed_count use_refusals_in spent total_by totals_by around inside selected
    all_selected selection used_in report_in tile_refusals select_keys bytes bytes_of header file_of
table = record {
  p1-length = refl;
  p1-header = refl;
  p1-openings = refl;
  p1-records = refl;
  p1-counts = refl;
  p2 = refl;
  p3 = refl;
  p4 = refl;
  p5 = refl;
  p6 = refl;
  p7 = refl;
  p8 = refl;
  p9 = refl;
  p10 = refl;
  p11-gap = refl;
  p11-large = refl;
  p12-refused = refl;
  p12-accepted = refl;
}
