-- Worked examples of salvage, computed from its definitions at m = 2.
-- Assumes nothing.
use mathlib.Core.Path.{◌≡◌, refl}
use mathlib.Core.List.{List, [], ◌∷◌, flat_map}
use Prim.Native.Nat.{ℕ}
use Rattle.lists.specs.Lists.{up_from, greatest, keep, before}
use Rattle.std.specs.Prelude.{Some, Ok}
use Rattle.answers.specs.declared.Cause.TheVariants.{BadM, BadCount, BadKey, Overlap, ShortRoom}
use Rattle.answers.specs.Refusals.{refuse, answer}
use Rattle.answers.specs.Sizes.{picture_refusals, wrong_count, count_refusals, size_refusals_in}
use Rattle.answers.specs.Cells.{overwrite}
use Rattle.answers.specs.After.{after, room_refusals}
use Rattle.answers.proofs.P1.{old}
use Rattle.key.specs.Key.{ones}
use Rattle.key.specs.Form.{from, span, form_of}
use Rattle.key.specs.Places.{place_key, span_key}
use Rattle.map.specs.Spans.{malformed, start, end, holds}
use Rattle.map.specs.Records.{record_of}
use Rattle.map.specs.Promises.{is_free}
use Rattle.stretch.specs.Sets.{base, full, fits_in, exponent_in, starts, between}
use Rattle.stretch.specs.Fewest.{maximal_in, key_from, fewest, stretch}
use Rattle.salvage.specs.Salvage.{kept, dropped, filled, fills, mends_of, reached, mends_from, mends, brings, logs, firsts, seconds, cells, salvaged, entries}
use Rattle.salvage.specs.Salvage.{result_refusals, salvage_refusals, counted, salvage_of}
use Rattle.salvage.specs.Promises.{number_of, key_kept, key_filled, unkept}

-- a map in which 26 is no key, 11 stands twice, and blocks are missing
abbrev pub keys : List ℕ
keys = 5 ∷ 11 ∷ 26 ∷ 11 ∷ 14 ∷ 20 ∷ []

abbrev pub classes : List ℕ
classes = 1 ∷ 2 ∷ 2 ∷ 3 ∷ 1 ∷ 2 ∷ []

abbrev pub mended : List ℕ
mended = 5 ∷ 11 ∷ 12 ∷ 13 ∷ 14 ∷ 15 ∷ 20 ∷ 99 ∷ []

abbrev pub painted : List ℕ
painted = 1 ∷ 2 ∷ 255 ∷ 255 ∷ 1 ∷ 255 ∷ 2 ∷ 99 ∷ []

abbrev pub logged : List ℕ
logged = 2 ∷ 3 ∷ 3 ∷ 4 ∷ 12 ∷ 5 ∷ 13 ∷ 5 ∷ 15 ∷ 5 ∷ 99 ∷ []

pub record Examples : Type 0 where
  -- record by record
  pub order : mends 2 keys ≡ kept 0 ∷ kept 1 ∷ dropped 2 BadKey ∷ dropped 3 Overlap ∷ filled 12 ∷ filled 13 ∷ kept 4 ∷ filled 15 ∷ kept 5 ∷ []
  pub each : flat_map number_of (mends 2 keys) ≡ 0 ∷ 1 ∷ 2 ∷ 3 ∷ 4 ∷ 5 ∷ []
  pub whole : flat_map (key_kept keys) (mends 2 keys) ≡ 5 ∷ 11 ∷ 14 ∷ 20 ∷ []
  pub holes : flat_map key_filled (mends 2 keys) ≡ 12 ∷ 13 ∷ 15 ∷ []
  pub free : keep (unkept 2 keys (mends 2 keys)) (up_from 0 17) ≡ 5 ∷ 6 ∷ 8 ∷ 9 ∷ 10 ∷ 11 ∷ []
  -- key 11 is that of the pixel at place 4
  pub eleven : form_of 2 11 ≡ Some (span 0 4)
  -- the call, with a cell more than it needs in each slice
  pub done : salvage_of 2 keys classes (old 8) (old 8) (old 11) ≡ after (Ok (counted 7 5)) (mended, painted, logged)
  -- no record at all
  pub none : salvage_of 2 [] [] (old 1) (old 1) (old 2) ≡ after (Ok (counted 1 1)) (0 ∷ [], 255 ∷ [], 0 ∷ 5 ∷ [])
  -- records in reverse order: the last quadrant comes first, and all others start before its end
  pub reverse : salvage_of 2 (20 ∷ 15 ∷ 10 ∷ 5 ∷ []) (4 ∷ 3 ∷ 2 ∷ 1 ∷ []) (old 4) (old 4) (old 12)
      ≡ after (Ok (counted 4 6)) (5 ∷ 10 ∷ 15 ∷ 20 ∷ [], 255 ∷ 255 ∷ 255 ∷ 4 ∷ [], 5 ∷ 5 ∷ 10 ∷ 5 ∷ 15 ∷ 5 ∷ 1 ∷ 4 ∷ 2 ∷ 4 ∷ 3 ∷ 4 ∷ [])
  -- every key malformed, the greatest number of 32 bits among them
  pub garbled : salvage_of 2 (1 ∷ 4294967295 ∷ []) (1 ∷ 2 ∷ []) (old 1) (old 1) (old 6) ≡ after (Ok (counted 1 3)) (0 ∷ [], 255 ∷ [], 0 ∷ 3 ∷ 1 ∷ 3 ∷ 0 ∷ 5 ∷ [])
  -- a sound map
  pub same : salvage_of 2 (5 ∷ 10 ∷ 15 ∷ 20 ∷ []) (1 ∷ 2 ∷ 3 ∷ 4 ∷ []) (old 5) (old 4) []
      ≡ after (Ok (counted 4 0)) (5 ∷ 10 ∷ 15 ∷ 20 ∷ 99 ∷ [], 1 ∷ 2 ∷ 3 ∷ 4 ∷ [], [])
  -- refused
  pub large : salvage_of 13 [] [] (old 1) (old 1) (old 2) ≡ after (refuse BadM 0) (old 1, old 1, old 2)
  pub differ : salvage_of 2 (0 ∷ []) [] (old 1) (old 1) (old 2) ≡ after (refuse BadCount 0) (old 1, old 1, old 2)
  pub few-keys : salvage_of 2 keys classes (old 6) (old 8) [] ≡ after (refuse ShortRoom 7) (old 6, old 8, [])
  pub few-classes : salvage_of 2 keys classes (old 8) (old 6) [] ≡ after (refuse ShortRoom 7) (old 8, old 6, [])
  pub short-log : salvage_of 2 keys classes (old 7) (old 7) (old 9) ≡ after (refuse ShortRoom 10) (old 7, old 7, old 9)
  -- a result of 65,536 records, and of more
  pub most : answer refuse (result_refusals 65536 0 65536 65536 0) (Ok (counted 65536 0)) ≡ Ok (counted 65536 0)
  pub more : answer refuse (result_refusals 65537 0 70000 70000 0) (Ok (counted 65537 0)) ≡ refuse BadCount 0

pub examples : Examples
unfolding flat_map up_from greatest keep before answer picture_refusals wrong_count count_refusals size_refusals_in overwrite room_refusals ones from form_of place_key span_key
    malformed start end holds record_of is_free base full fits_in exponent_in starts between maximal_in key_from fewest stretch
    fills mends_of reached mends_from brings logs firsts seconds cells salvaged entries result_refusals salvage_refusals salvage_of number_of key_kept key_filled unkept
examples =
    record {
      order = refl;
      each = refl;
      whole = refl;
      holes = refl;
      free = refl;
      eleven = refl;
      done = refl;
      none = refl;
      reverse = refl;
      garbled = refl;
      same = refl;
      large = refl;
      differ = refl;
      few-keys = refl;
      few-classes = refl;
      short-log = refl;
      most = refl;
      more = refl;
    }
