-- Worked examples of a map with gaps, by itself and over a baseline, computed from the definitions.
-- Assumes nothing.
use mathlib.Core.Path.{◌≡◌, refl}
use mathlib.Core.Bool.{true, false}
use mathlib.Core.List.{List, [], ◌∷◌}
use Prim.Native.Nat.{ℕ}
use Rattle.lists.specs.Lists.{up_from, any, how_many, before}
use Rattle.key.specs.Spread.{spread_to, spread}
use Rattle.key.specs.Picture.{place}
use Rattle.key.specs.Form.{from, form_of}
use Rattle.window.specs.Blocks.{across, rows}
use Rattle.window.specs.Rules.{exists_by, total_by}
use Rattle.window.proofs.P1.{W}
use Rattle.map.specs.Spans.{start, end, holds}
use Rattle.map.specs.Records.{record_of}
use Rattle.map.specs.Classes.{class_over, not_seen}
use Rattle.pieces.specs.Pair.{class_over_map}
use Rattle.pieces.specs.Pieces.{places_of, seen_in}

-- of 4 by 4: a pixel of the north-west quadrant, and the quadrants in the north-east and the south-east, of which the last was not seen
abbrev keys : List ℕ
keys = 9 ∷ 10 ∷ 20 ∷ []

abbrev classes : List ℕ
classes = 7 ∷ 9 ∷ 255 ∷ []

-- where it has no record, class 5
abbrev sparse : ℕ → ℕ
sparse = class_over 5 2 keys classes

-- over four quadrants
abbrev over : ℕ → ℕ
over = class_over_map 2 keys classes (5 ∷ 10 ∷ 15 ∷ 20 ∷ []) (1 ∷ 2 ∷ 3 ∷ 4 ∷ [])

record Examples : Type 0 where
  -- the pixel in row 0 and column 1 is in a gap, that in row 1 and column 1 is a record
  gap : sparse (place 0 1) ≡ 5
  own : sparse (place 1 1) ≡ 7
  under : over (place 0 1) ≡ 1
  today : over (place 1 1) ≡ 7
  -- of the window's nine pixels, two are in gaps
  background : total_by sparse W 5 ≡ 2
  pixel : total_by sparse W 7 ≡ 1
  quadrant : total_by sparse W 9 ≡ 4
  unseen : total_by sparse W not_seen ≡ 2
  west : total_by over W 1 ≡ 1
  south : total_by over W 3 ≡ 1
  hidden : total_by over W 2 ≡ 0
  -- a gap's class is there, that of a record which today's map hides is not
  found : exists_by sparse W 5 ≡ true
  lost : exists_by over W 4 ≡ false
  -- the first half of the places: three in the gap, one pixel, and a quadrant
  places : places_of sparse 0 8 5 ≡ 3
  seen : seen_in sparse 0 8 not_seen ≡ false

examples : Examples
unfolding up_from any how_many before spread_to spread place from form_of across rows exists_by total_by start end holds record_of class_over_map places_of seen_in
examples = record {
  gap = refl;
  own = refl;
  under = refl;
  today = refl;
  background = refl;
  pixel = refl;
  quadrant = refl;
  unseen = refl;
  west = refl;
  south = refl;
  hidden = refl;
  found = refl;
  lost = refl;
  places = refl;
  seen = refl;
}
