-- Worked examples of sets of places and their fewest blocks, computed from the definitions.
-- Assumes nothing.
use mathlib.Core.Path.{◌≡◌, refl}
use mathlib.Core.Bool.{Bool, ◌||◌}
use mathlib.Core.List.{[], ◌∷◌}
use Prim.Native.Nat.{ℕ}
use Rattle.lists.specs.Lists.{up_from, keep, greatest}
use Rattle.key.specs.Key.{ones}
use Rattle.key.specs.Places.{place_key, span_key}
use Rattle.stretch.specs.Promises.{joined, runs, stretches}
use Rattle.stretch.specs.Sets.{base, full, fits_in, exponent_in, starts, between}
use Rattle.stretch.specs.Fewest.{maximal_in, key_from, fewest, stretch}
use Rattle.stretch.specs.Walk.{largest}

-- two runs, one of them a pixel, a quadrant and a pixel
abbrev set : ℕ → Bool
set q = between 3 9 q || between 10 12 q

record Examples : Type 0 where
  -- all but the first and the last pixel of 4 by 4
  most : stretch 2 1 15 ≡ 7 ∷ 8 ∷ 9 ∷ 10 ∷ 15 ∷ 21 ∷ 22 ∷ 23 ∷ []
  whole : stretch 2 0 16 ≡ 0 ∷ []
  none : stretch 2 5 5 ≡ []
  -- the last record of P1's map removed: its gap is one block
  gap : stretch 2 12 16 ≡ 20 ∷ []
  -- as many places as a quadrant has, of which none is whole
  across : stretch 2 6 10 ≡ 13 ∷ 14 ∷ 16 ∷ 17 ∷ []
  two_runs : runs set 0 16 ≡ (3, 9) ∷ (10, 12) ∷ []
  two-starts : maximal_in 2 set 0 16 ≡ 3 ∷ 4 ∷ 8 ∷ 10 ∷ 11 ∷ []
  two : fewest 2 set 0 16 ≡ 9 ∷ 10 ∷ 16 ∷ 18 ∷ 19 ∷ []
  apart : stretches 2 (runs set 0 16) ≡ 9 ∷ 10 ∷ 16 ∷ 18 ∷ 19 ∷ []
  -- the largest block by the greatest exponent and the places left
  by-places : largest 12 15 ≡ 1
  by-start : largest 0 15 ≡ 0
  picture : largest 12 16777216 ≡ 12

examples : Examples
unfolding up_from keep greatest ones place_key span_key base full fits_in exponent_in starts between maximal_in key_from fewest stretch joined runs stretches largest
examples = record {
  most = refl;
  whole = refl;
  none = refl;
  gap = refl;
  across = refl;
  two_runs = refl;
  two-starts = refl;
  two = refl;
  apart = refl;
  by-places = refl;
  by-start = refl;
  picture = refl;
}
