-- What is seen of a map through a window, its view: the records that overlap the window, each by its key and its class. And the openings, said by records in place of indices.
-- Assumes nothing.
use Rattle.std.specs.Prelude.{◌≡◌, Bool, cond, List, [], ◌∷◌, ◌++◌, map, ℕ, ◌+◌, ◌*◌, length, get_or}
use Rattle.lists.specs.Lists.{up_from, any, keep}
use Rattle.key.specs.Picture.{place}
use Rattle.key.specs.Form.{form_of}
use Rattle.window.specs.declared.Window.{Window}
use Rattle.window.specs.Blocks.{pixels}
use Rattle.window.specs.Keys.{keys_of}
use Rattle.map.specs.Spans.{holds, within, overlap}
use Rattle.border.specs.Openings.{Opening, made, hands}
use Rattle.border.specs.Promises.{Overlaps}

-- ---- the view

-- record n, by its key and its class
abbrev pub record_at : List ℕ → List ℕ → ℕ → ℕ × ℕ
record_at keys classes n = (get_or keys n 0, get_or classes n 0)

-- all records of a map, in its order
abbrev pub records_of : List ℕ → List ℕ → List (ℕ × ℕ)
records_of keys classes = map (record_at keys classes) (up_from 0 (length keys))

-- a record overlaps the window: its block has one of the window's pixels
unfoldable pub overlapping : ℕ → Window → ℕ × ℕ → Bool
overlapping m W r = any (λ p. holds (place p.0 p.1) (form_of m r.0)) (pixels W)

-- the records that overlap the window, in the order of the map
unfoldable pub view : ℕ → List ℕ → List ℕ → Window → List (ℕ × ℕ)
view m keys classes W = keep (overlapping m W) (records_of keys classes)

-- two maps have the same view: one list
pub record SameView (m : ℕ) (keys classes keys' classes' : List ℕ) (W : Window) : Type 0 where
  pub one : view m keys classes W ≡ view m keys' classes' W

-- as a set: some record that overlaps the window has this key and this class
pub record InView (m : ℕ) (keys classes : List ℕ) (W : Window) (r : ℕ × ℕ) : Type 0 where
  pub index : ℕ
  pub overlaps : Overlaps m keys W index
  pub is : record_at keys classes index ≡ r

-- ---- openings by records

-- opening j, counted from 0, as it stands in cells
abbrev pub opening_in : List ℕ → ℕ → Opening
opening_in cells j = made (get_or cells (3 * j) 0) (get_or cells (3 * j + 1) 0) (get_or cells (3 * j + 2) 0)

-- an opening by what it brings: the block's key, and the records themselves
abbrev pub brought : List ℕ → List ℕ → Opening → ℕ × List (ℕ × ℕ)
brought keys classes o = (o.key, map (record_at keys classes) (hands o))

module _ (m : ℕ) (records : List (ℕ × ℕ)) where
  -- those of the records that overlap the block of a key
  abbrev pub meeting : ℕ → List (ℕ × ℕ)
  meeting key = keep (λ r. overlap (form_of m key) (form_of m r.0)) records

  -- a block is skipped when it lies in a record already brought; otherwise it is opened, and brings the records that overlap it
  unfoldable pub brought_from : List (ℕ × ℕ) → List ℕ → List (ℕ × List (ℕ × ℕ))
  brought_from out [] = []
  brought_from out (k ∷ ks) =
      cond (any (λ r. within (form_of m k) (form_of m r.0)) out)
      (brought_from out ks)
      ((k, meeting k) ∷ brought_from (out ++ meeting k) ks)

-- what the openings of a window bring, by its view alone
unfoldable pub brought_by : ℕ → ℕ → Window → List (ℕ × ℕ) → List (ℕ × List (ℕ × ℕ))
brought_by m top W records = brought_from m records [] (keys_of m top W)
