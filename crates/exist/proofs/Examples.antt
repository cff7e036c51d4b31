-- Exist, in examples: on the map and the window of P1.
-- Assumes nothing.
use mathlib.Core.Path.{◌≡◌, refl}
use mathlib.Core.Bool.{false}
use mathlib.Core.List.{List, [], ◌∷◌}
use Prim.Native.Nat.{ℕ}
use Rattle.lists.specs.Lists.{up_from, any, before, how_many}
use Rattle.std.specs.Prelude.{Ok}
use Rattle.answers.specs.Refusals.{answer}
use Rattle.answers.specs.Sizes.{wrong_count, size_refusals_in, picture_refusals, count_refusals}
use Rattle.answers.specs.Cells.{overwrite}
use Rattle.answers.specs.After.{after}
use Rattle.answers.proofs.P1.{keys, classes, glare, old, keys-sparse, classes-sparse}
use Rattle.key.specs.Spread.{spread_to, spread}
use Rattle.key.specs.Picture.{place}
use Rattle.key.specs.Form.{from, form_of}
use Rattle.window.specs.Window.{window, beyond, outside, window_refusals}
use Rattle.window.specs.Blocks.{across, rows}
use Rattle.window.specs.Rules.{exists_by}
use Rattle.window.proofs.P1.{W}
use Rattle.map.specs.Spans as spans
use Rattle.map.specs.Classes.{class_over}
use Rattle.map.specs.Check.{late, refusals_from, map_refusals_in}
use Rattle.map.specs.Records.{record_of}
use Rattle.used.specs.Used.{use_refusals_in, spent, border_refusals}
use Rattle.exist.specs.declared.Existence.TheVariants as existence
use Rattle.exist.specs.Exist.{presence_by, existing_by, exist_of, exist_in}

-- the four pixels of a picture
abbrev pixels : List ℕ
pixels = 1 ∷ 2 ∷ 3 ∷ 4 ∷ []

pub record Examples : Type 0 where
  pub yes : exist_of 2 keys classes W 3 (old 4) ≡ after (Ok existence.Yes) (3 ∷ 3 ∷ 3 ∷ 99 ∷ [])
  pub no : exist_of 2 keys classes W 4 (old 3) ≡ after (Ok existence.No) (3 ∷ 3 ∷ 3 ∷ [])
  -- the class is in the picture, but not in the window
  pub elsewhere : exist_of 1 pixels (7 ∷ 0 ∷ 0 ∷ 0 ∷ []) (window 1 0 1 2) 7 (old 2) ≡ after (Ok existence.No) (2 ∷ 2 ∷ [])
  -- none was seen with the class, and one of the last opening was not seen
  pub cannot-tell : exist_of 2 keys glare W 4 (old 4) ≡ after (Ok existence.CannotTell) (3 ∷ 3 ∷ 3 ∷ 99 ∷ [])
  -- what has the class is enough
  pub yes-and-glare : exist_of 2 keys glare W 3 (old 3) ≡ after (Ok existence.Yes) (3 ∷ 3 ∷ 3 ∷ [])
  -- asked for what was not seen itself
  pub unseen : exist_of 2 keys glare W 255 (old 3) ≡ after (Ok existence.Yes) (3 ∷ 3 ∷ 3 ∷ [])
  pub all_seen : exist_of 2 keys classes W 255 (old 3) ≡ after (Ok existence.No) (3 ∷ 3 ∷ 3 ∷ [])
  -- all of the window was seen, though not all of the picture
  pub glare-elsewhere : exist_of 1 pixels (255 ∷ 0 ∷ 0 ∷ 0 ∷ []) (window 1 0 1 2) 7 (old 2) ≡ after (Ok existence.No) (2 ∷ 2 ∷ [])

-- on the map without its records of class 1, over a background of this class
abbrev over : ℕ → ℕ → ℕ
over background = class_over background 2 keys-sparse classes-sparse

pub record Gapped : Type 0 where
  -- as on the map that has them
  pub gap : exist_in false (over 1) 2 keys-sparse 4 W 1 (old 4) ≡ after (Ok existence.Yes) (3 ∷ 3 ∷ 3 ∷ 99 ∷ [])
  pub absent : exist_in false (over 1) 2 keys-sparse 4 W 4 (old 3) ≡ after (Ok existence.No) (3 ∷ 3 ∷ 3 ∷ [])
  -- gaps of a background of 255 were not seen
  pub unseen : exist_in false (over 255) 2 keys-sparse 4 W 4 (old 3) ≡ after (Ok existence.CannotTell) (3 ∷ 3 ∷ 3 ∷ [])
  pub gap-unseen : exist_in false (over 255) 2 keys-sparse 4 W 255 (old 3) ≡ after (Ok existence.Yes) (3 ∷ 3 ∷ 3 ∷ [])
  -- a map without records is its background
  pub none : exist_in false (class_over 7 2 [] []) 2 [] 0 W 7 (old 3) ≡ after (Ok existence.Yes) (3 ∷ 3 ∷ 3 ∷ [])

pub examples : Examples
unfolding picture_refusals count_refusals border_refusals answer wrong_count size_refusals_in overwrite up_from spread_to spread place from form_of beyond
    outside window_refusals across rows spans.malformed spans.form_exponent spans.start spans.end spans.holds late refusals_from map_refusals_in before
    how_many record_of any use_refusals_in spent exists_by presence_by existing_by exist_in
examples = record {
  yes = refl;
  no = refl;
  elsewhere = refl;
  cannot-tell = refl;
  yes-and-glare = refl;
  unseen = refl;
  all_seen = refl;
  glare-elsewhere = refl;
}

pub gaps : Gapped
unfolding picture_refusals count_refusals border_refusals answer wrong_count size_refusals_in overwrite up_from spread_to spread place from form_of beyond
    outside window_refusals across rows spans.malformed spans.form_exponent spans.start spans.end spans.holds late refusals_from map_refusals_in before
    how_many record_of any use_refusals_in spent exists_by presence_by existing_by exist_in
gaps = record { gap = refl; absent = refl; unseen = refl; gap-unseen = refl; none = refl }
