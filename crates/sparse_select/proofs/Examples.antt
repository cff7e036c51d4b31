-- Select on a map with gaps, in examples: a map of m = 2 with three records, of which the last has the class of the background.
-- Assumes nothing.
use mathlib.Core.Path.{◌≡◌, refl}
use mathlib.Core.List.{List, [], ◌∷◌, flat_map}
use Prim.Native.Nat.{ℕ}
use Rattle.lists.specs.Lists.{up_from, any, keep, before, how_many, greatest}
use Rattle.answers.proofs.P1.{keys-sparse, classes-sparse}
use Rattle.key.specs.Spread.{spread_to, spread}
use Rattle.key.specs.Key.{pixel_key, block_key, ones}
use Rattle.key.specs.Form.{from, form_of}
use Rattle.key.specs.Places.{place_key, span_key}
use Rattle.window.specs.Window.{window}
use Rattle.window.specs.Blocks.{floor, lies, fits, exponent, corner, across, rows, is_corner, maximal}
use Rattle.window.specs.Keys.{key_of, keys_of}
use Rattle.window.proofs.P1.{W}
use Rattle.map.specs.Spans as spans
use Rattle.map.specs.Records.{record_of, exponent_of}
use Rattle.map.specs.Runs.{run_of}
use Rattle.map.specs.Promises.{is_free}
use Rattle.pick.specs.Picked.{picked_around}
use Rattle.stretch.specs.Sets.{base, full, fits_in, exponent_in, starts, between}
use Rattle.stretch.specs.Fewest.{maximal_in, key_from, fewest, stretch}
use Rattle.border.specs.Openings.{opening}
use Rattle.select.specs.Select as select
use Rattle.sparse_select.specs.Select.{blank, merged, sparse_selected, sparse_selection}
use Rattle.sparse_select.specs.Promises.{bare, held}

abbrev keys : List ℕ
keys = 7 ∷ 10 ∷ 23 ∷ []

abbrev classes : List ℕ
classes = 1 ∷ 2 ∷ 0 ∷ []

pub record Examples : Type 0 where
  -- the whole picture: the gaps and the record of the background's class, in key order, and not joined
  pub gaps : sparse_selection 2 2 0 keys classes (window 0 0 4 4) 0 ≡ 6 ∷ 8 ∷ 9 ∷ 15 ∷ 21 ∷ 22 ∷ 23 ∷ 24 ∷ []
  -- of these the one that starts in a record is what select lists without gaps, and the others are the gaps' blocks
  pub in-record : keep (held 2 keys) (sparse_selected 2 0 keys classes 0 0) ≡ select.selected 2 keys classes 0 0
  pub that-one : select.selected 2 keys classes 0 0 ≡ 23 ∷ []
  pub in-none : keep (bare 2 keys) (sparse_selected 2 0 keys classes 0 0) ≡ 6 ∷ 8 ∷ 9 ∷ 15 ∷ 21 ∷ 22 ∷ 24 ∷ []
  -- a class that is not the background's, and one that no record has
  pub other : sparse_selection 2 2 0 keys classes (window 0 0 4 4) 1 ≡ 7 ∷ []
  pub absent : sparse_selection 2 2 0 keys classes (window 0 0 4 4) 5 ≡ []
  -- a block in no record has its own key, and one in a record of another class has none
  pub own : sparse_selected 2 0 keys classes 0 15 ≡ 15 ∷ []
  pub hidden : sparse_selected 2 0 keys classes 0 11 ≡ []
  pub around : sparse_selected 2 0 keys classes 2 11 ≡ 11 ∷ []
  -- with another background a gap counts for that one
  pub background : sparse_selected 2 5 keys classes 5 20 ≡ 21 ∷ 22 ∷ 24 ∷ []
  -- of P1's map without its records of class 1 the same is selected as of the map that has them
  pub as-whole : sparse_selection 2 2 1 keys-sparse classes-sparse W 1 ≡ 7 ∷ 14 ∷ 9 ∷ 17 ∷ []
  -- without records each maximal block is the background's
  pub empty : sparse_selection 2 2 0 [] [] W 0 ≡ 7 ∷ 10 ∷ 9 ∷ 17 ∷ 21 ∷ 22 ∷ []

pub examples : Examples
unfolding flat_map up_from any keep before how_many greatest spread_to spread pixel_key block_key ones from form_of place_key span_key
    floor lies fits exponent corner across rows is_corner maximal key_of keys_of spans.form_exponent spans.start spans.end spans.holds spans.within spans.overlap
    record_of exponent_of run_of picked_around base full fits_in exponent_in starts between maximal_in key_from fewest stretch
    opening select.around select.inside select.selected blank merged sparse_selected sparse_selection is_free bare held
examples =
    record {
      gaps = refl;
      in-record = refl;
      that-one = refl;
      in-none = refl;
      other = refl;
      absent = refl;
      own = refl;
      hidden = refl;
      around = refl;
      background = refl;
      as-whole = refl;
      empty = refl;
    }
