-- The words in which the promises about the openings of a window are said.
-- Assumes nothing.
use Rattle.std.specs.Prelude.{◌≡◌, true, false, ℕ, ◌<◌, ltb, length, get_or}
use mathlib.Core.List.{List, [], ◌∷◌, ◌++◌, Memᴰ}
use Rattle.lists.specs.Promises.{Nth}
use Rattle.lists.specs.Lists.{keep}
use Rattle.key.specs.Picture.{Px}
use Rattle.key.specs.Form.{form_of}
use Rattle.window.specs.declared.Window.{Window}
use Rattle.window.specs.Window.{In}
use Rattle.window.specs.Keys.{key_of, keys_of}
use Rattle.map.specs.Spans.{within, overlap}
use Rattle.map.specs.Records.{pixel_record}
use Rattle.border.specs.Openings.{met, Opening, made, opening, hands}

-- the window has a pixel of record n. Of a pixel in no record `pixel_record` is the number of records: where the map has gaps, that number may touch the window too
pub record Touches (m : ℕ) (keys : List ℕ) (W : Window) (n : ℕ) : Type 0 where
  pub at : Px
  pub inside : In W at
  pub is : pixel_record m keys at.0 at.1 ≡ n

-- record n overlaps the window: they share a pixel, and n is the number of a record. In a whole map every pixel is in a record, and `Touches` says it alone
abbrev pub Overlaps : ℕ → List ℕ → Window → ℕ → Type 0
Overlaps m keys W n = Touches m keys W n × (n < length keys)

-- the opening of the block with corner b
abbrev pub opening_at : ℕ → ℕ → List ℕ → Window → Px → Opening
opening_at m top keys W b = opening m keys (key_of m top W b)

-- the openings that stand in cells, three cells to each
unfoldable pub openings_in : List ℕ → List Opening
openings_in [] = []
openings_in (key ∷ []) = []
openings_in (key ∷ first ∷ []) = []
openings_in (key ∷ first ∷ count ∷ cells) = made key first count ∷ openings_in cells

-- one of these openings hands out record n
pub record HandedOut (os : List Opening) (n : ℕ) : Type 0 where
  pub by : Opening
  pub listed : Memᴰ by os
  pub hands : Memᴰ n (hands by)

-- opening number k, counted from 0, hands out record n
pub record HandedBy (os : List Opening) (k n : ℕ) : Type 0 where
  pub by : Opening
  pub at : Nth os k by
  pub hands : Memᴰ n (hands by)

-- opening number k is that of the block of a key
pub record OpenedAs (os : List Opening) (key k : ℕ) : Type 0 where
  pub by : Opening
  pub at : Nth os k by
  pub is : by.key ≡ key

-- a maximal block, by its key, is skipped for record n: it lies in that record, which opening number k hands out, the opening of a block that comes before it
pub record SkippedFor (m top : ℕ) (keys : List ℕ) (W : Window) (os : List Opening) (key n k : ℕ) : Type 0 where
  pub lies : within (form_of m key) (form_of m (get_or keys n 0)) ≡ true
  pub handed : HandedBy os k n
  pub before : List ℕ
  pub later : List ℕ
  pub split : keys_of m top W ≡ before ++ key ∷ later
  pub earlier : Memᴰ handed.by.key before

-- the openings that bring a record: where the map has gaps, a block that overlaps no record is opened too
unfoldable pub bringing : List Opening → List Opening
bringing os = keep (λ o. ltb 0 o.count) os

-- no record overlaps the block of a key
pub record Unmet (m : ℕ) (keys : List ℕ) (key : ℕ) : Type 0 where
  pub none : (n : ℕ) → n < length keys → overlap (form_of m key) (form_of m (get_or keys n 0)) ≡ false

-- no record is handed out by both
abbrev pub Apart : Opening → Opening → Type 0
Apart o o' = (n : ℕ) → Memᴰ n (hands o) → ¬ Memᴰ n (hands o')

-- these keys are those of maximal blocks, and each record that overlaps the window overlaps one of these blocks
pub record Enough (m top : ℕ) (keys : List ℕ) (W : Window) (s : List ℕ) : Type 0 where
  pub blocks : (k : ℕ) → Memᴰ k s → Memᴰ k (keys_of m top W)
  pub brings : (n : ℕ) → Overlaps m keys W n → (k : ℕ) × Memᴰ k s × Memᴰ n (met m keys k)
