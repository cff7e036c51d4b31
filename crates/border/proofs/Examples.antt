-- Worked examples of openings and of views, computed from the definitions.
-- Assumes nothing.
use mathlib.Core.Path.{◌≡◌, refl}
use mathlib.Core.List.{List, [], ◌∷◌}
use Prim.Native.Nat.{ℕ}
use Rattle.lists.specs.Lists.{up_from, any, keep, before, how_many, greatest}
use Rattle.std.specs.Prelude.{None, Some}
use Rattle.answers.specs.After.{after}
use Rattle.answers.proofs.P1.{keys, classes, glare, keys-cut, classes-cut, keys-west, classes-west}
use Rattle.key.specs.Spread.{spread_to, spread}
use Rattle.key.specs.Picture.{place}
use Rattle.key.specs.Key.{pixel_key, block_key}
use Rattle.key.specs.Form.{from, form_of}
use Rattle.window.specs.Blocks.{floor, lies, fits, exponent, corner, across, rows, is_corner, maximal}
use Rattle.window.specs.Keys.{key_of, keys_of}
use Rattle.window.proofs.P1.{W, columns}
use Rattle.map.specs.Spans as spans
use Rattle.map.specs.Spans.{within}
use Rattle.map.specs.Records.{record_of, exponent_of}
use Rattle.map.specs.Runs.{run, run_of}
use Rattle.border.specs.Openings.{is_handed, made, opening, open_from, openings, handed_count, cells_of}
use Rattle.border.specs.Promises.{openings_in, bringing}
use Rattle.border.specs.ViewPromises.{overlapping, view, SameView, brought_from, brought_by}
use Rattle.border.specs.Cells.{filled, pushed, closed}
use Rattle.border.specs.Step.{opened, step_of}
use Rattle.border.proofs.Gone.{handed_after}

abbrev gapped : List ℕ
gapped = 11 ∷ 20 ∷ []

pub record Examples : Type 0 where
  -- one record over all: the first block opens it, and all others are skipped
  pub single : openings 2 2 (0 ∷ []) W ≡ made 7 0 1 ∷ []
  -- P1's first steps: block 7 pushes the cell of its column to the bottom of record 0; block 9, after block 10, is skipped
  pub step-7 : step_of 2 2 keys W (0, 1) (0 ∷ 0 ∷ 0 ∷ []) ≡ after (Some (opened 7 (run 0 1 1) 0)) (2 ∷ 0 ∷ 0 ∷ [])
  pub step-10 : step_of 2 2 keys W (0, 2) (2 ∷ 0 ∷ 0 ∷ []) ≡ after (Some (opened 10 (run 1 4 1) 0)) (2 ∷ 2 ∷ 2 ∷ [])
  pub step-9 : step_of 2 2 keys W (1, 1) (2 ∷ 2 ∷ 2 ∷ []) ≡ after None (2 ∷ 2 ∷ 2 ∷ [])
  -- the openings that stand in those cells; and three border cells are enough, two are not
  pub in_cells : openings_in (7 ∷ 0 ∷ 1 ∷ 10 ∷ 1 ∷ 4 ∷ 17 ∷ 5 ∷ 1 ∷ 21 ∷ 6 ∷ 1 ∷ []) ≡ openings 2 2 keys W
  -- a map with gaps, of the records 11 and 20 alone: blocks 7, 9 and 17 meet no record and are opened empty, and block 22 lies in record 1
  pub gaps : openings 2 2 gapped W ≡ made 7 0 0 ∷ made 10 0 1 ∷ made 9 0 0 ∷ made 17 0 0 ∷ made 21 1 1 ∷ []
  -- two of them bring a record
  pub two : bringing (openings 2 2 gapped W) ≡ made 10 0 1 ∷ made 21 1 1 ∷ []
  -- an empty block pushes its own column
  pub step-none : step_of 2 2 gapped W (0, 1) (0 ∷ 0 ∷ 0 ∷ []) ≡ after (Some (opened 7 (run 0 0 0) 0)) (1 ∷ 0 ∷ 0 ∷ [])
  -- with blocks of one pixel and no larger, P1's records 1 to 4 take an opening each, and record 6 one still
  pub pixels : openings 2 0 keys W ≡ made 7 0 1 ∷ made 11 1 1 ∷ made 12 2 1 ∷ made 13 3 1 ∷ made 14 4 1 ∷ made 17 5 1 ∷ made 21 6 1 ∷ []

-- the view of P1's map through the columns 2 and 3
abbrev half : List (ℕ × ℕ)
half = (11, 2) ∷ (12, 2) ∷ (13, 3) ∷ (14, 1) ∷ (20, 2) ∷ []

pub record Views : Type 0 where
  pub east : view 2 keys classes columns ≡ half
  -- other records in the west are not in it
  pub west : SameView 2 keys classes keys-west classes-west columns
  -- a record in it of another class, and one that is cut
  pub unseen : view 2 keys glare columns ≡ (11, 2) ∷ (12, 2) ∷ (13, 3) ∷ (14, 1) ∷ (20, 255) ∷ []
  pub cut : view 2 keys-cut classes-cut columns ≡ (11, 2) ∷ (12, 2) ∷ (13, 3) ∷ (14, 1) ∷ (21, 2) ∷ (22, 2) ∷ []
  -- what the openings bring, by the view alone: block 22 lies in the record that block 21 brings
  pub brings : brought_by 2 2 columns half ≡ (10, (11, 2) ∷ (12, 2) ∷ (13, 3) ∷ (14, 1) ∷ []) ∷ (21, (20, 2) ∷ []) ∷ []
  -- on the two maps the openings have other indices
  pub indices : openings 2 2 keys columns ≡ made 10 1 4 ∷ made 21 6 1 ∷ []
  pub other-indices : openings 2 2 keys-west columns ≡ made 10 4 4 ∷ made 21 9 1 ∷ []

pub examples : Examples
unfolding up_from spread_to spread place pixel_key block_key from form_of keep floor lies
    fits greatest exponent corner across rows is_corner maximal key_of keys_of spans.malformed spans.form_exponent spans.start spans.end spans.holds
    spans.overlap before how_many record_of exponent_of run_of any within is_handed opening open_from handed_after openings
    handed_count cells_of openings_in bringing filled pushed closed step_of
examples = record {
  single = refl;
  step-7 = refl;
  step-10 = refl;
  step-9 = refl;
  in_cells = refl;
  gaps = refl;
  two = refl;
  step-none = refl;
  pixels = refl;
}

pub views : Views
unfolding up_from spread_to spread place pixel_key block_key from form_of keep floor lies
    fits greatest exponent corner across rows is_corner maximal key_of keys_of spans.form_exponent spans.start spans.end spans.holds spans.overlap before how_many
    record_of exponent_of run_of any within is_handed opening open_from openings overlapping view brought_from brought_by
views = record {
  east = refl;
  west = record { one = refl };
  unseen = refl;
  cut = refl;
  brings = refl;
  indices = refl;
  other-indices = refl;
}
