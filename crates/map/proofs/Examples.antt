-- Worked examples of maps, computed from the definitions.
-- Assumes nothing.
use mathlib.Core.Path.{◌≡◌, refl}
use mathlib.Core.Bool.{true, false}
use mathlib.Core.List.{List, [], ◌∷◌}
use Prim.Native.Nat.{ℕ}
use Rattle.lists.specs.Lists.{before, how_many}
use Rattle.std.specs.Prelude.{Ok}
use Rattle.answers.specs.declared.Cause.TheVariants.{BadM, BadCount, Overlap, Gap}
use Rattle.answers.specs.Refusals.{answer, refuse, verdict}
use Rattle.answers.specs.Sizes.{wrong_count, size_refusals_in, picture_refusals, count_refusals}
use Rattle.answers.proofs.P1.{keys}
use Rattle.key.specs.Spread.{spread_to, spread}
use Rattle.key.specs.Picture.{place}
use Rattle.key.specs.Form.{from, form_of}
use Rattle.map.specs.Spans.{malformed, form_exponent, start, end, holds, overlap}
use Rattle.map.specs.Check.{late, refusals_from, map_refusals_in, check_in, check_of}
use Rattle.map.specs.Records.{record_of, exponent_of}
use Rattle.map.specs.Runs.{run, run_of}
use Rattle.map.proofs.Tiles.{tile_of}

abbrev gapped : List ℕ
gapped = 11 ∷ 20 ∷ []

pub record Examples : Type 0 where
  pub sound : check_of 2 keys 7 ≡ Ok 7
  pub pixel : check_of 0 (0 ∷ []) 1 ≡ Ok 1
  pub large : check_of 13 keys 7 ≡ refuse BadM 0
  pub differ : check_of 2 keys 6 ≡ refuse BadCount 0
  pub empty : check_of 2 [] 0 ≡ refuse BadCount 0
  pub late : check_of 2 (10 ∷ []) 1 ≡ refuse Gap 0
  pub behind : check_of 2 (0 ∷ 24 ∷ []) 2 ≡ refuse Overlap 1
  -- row 1, column 2 lies in record 3, a pixel; row 1, column 1 in record 0, of side 2
  pub record-3 : record_of 2 keys (place 1 2) ≡ 3
  pub record-0 : record_of 2 keys (place 1 1) ≡ 0
  pub side-0 : exponent_of 2 keys (place 1 1) ≡ 1
  -- block 10 has four records, block 9 lies in one, of side 2, and the picture has all
  pub run-10 : run_of 2 keys 10 ≡ run 1 4 1
  pub run-9 : run_of 2 keys 9 ≡ run 0 1 1
  pub run-0 : run_of 2 keys 0 ≡ run 0 7 2
  -- a map with gaps passes unless it is to be whole
  pub gaps : verdict (refusals_from false 2 0 0 gapped) ≡ Ok tt
  pub not-whole : verdict (refusals_from true 2 0 0 gapped) ≡ refuse Gap 0
  pub spaced : check_in false 2 gapped 2 ≡ Ok 2
  pub none : check_in false 2 [] 0 ≡ Ok 0
  pub none_differ : check_in false 2 [] 1 ≡ refuse BadCount 0
  pub nothing : verdict (refusals_from false 2 0 0 []) ≡ Ok tt
  pub back : verdict (refusals_from false 2 0 0 (20 ∷ 11 ∷ [])) ≡ refuse Overlap 1
  -- there block 7 meets no record, and its pixel is a tile of its own; block 10 meets one that does not contain it, and block 22 one that does
  pub run_none : run_of 2 gapped 7 ≡ run 0 0 0
  pub run-part : run_of 2 gapped 10 ≡ run 0 1 1
  pub run-22 : run_of 2 gapped 22 ≡ run 1 1 1
  pub no_record : record_of 2 gapped 1 ≡ 2
  pub no-side : exponent_of 2 gapped 1 ≡ 0
  pub tile : tile_of 2 gapped 1 ≡ 3

pub examples : Examples
unfolding picture_refusals count_refusals answer wrong_count size_refusals_in spread_to spread place from form_of malformed form_exponent start end holds
    overlap late refusals_from map_refusals_in check_in before how_many record_of exponent_of tile_of run_of
examples = record {
  sound = refl;
  pixel = refl;
  large = refl;
  differ = refl;
  empty = refl;
  late = refl;
  behind = refl;
  record-3 = refl;
  record-0 = refl;
  side-0 = refl;
  run-10 = refl;
  run-9 = refl;
  run-0 = refl;
  gaps = refl;
  not-whole = refl;
  spaced = refl;
  none = refl;
  none_differ = refl;
  nothing = refl;
  back = refl;
  run_none = refl;
  run-part = refl;
  run-22 = refl;
  no_record = refl;
  no-side = refl;
  tile = refl;
}
