-- Selecting a class in a map with gaps: for each maximal block its own key, or the keys of records inside it, and for the class of the background the fewest blocks of each gap.
-- Assumes nothing.
use Rattle.std.specs.Prelude.{cond, ℕ, eqb, length, get_or}
use mathlib.Core.List.{List, [], ◌∷◌, ◌++◌, flat_map}
use Rattle.lists.specs.Lists.{up_from, any}
use Rattle.key.specs.Form.{form_of}
use Rattle.window.specs.declared.Window.{Window}
use Rattle.window.specs.Keys.{keys_of}
use Rattle.map.specs.Spans.{start, end}
use Rattle.pick.specs.Picked.{picked_around}
use Rattle.stretch.specs.Fewest.{stretch}
use Rattle.border.specs.Openings.{met}
use Rattle.select.specs.Select.{around}

module _ (m background : ℕ) (keys classes : List ℕ) (class : ℕ) where
  -- the places from a up to b, which are in no record: the fewest blocks that make them up, if the class is that of the background
  unfoldable pub blank : ℕ → ℕ → List ℕ
  blank a b = cond (eqb class background) (stretch m a b) []

  -- the places from `at` up to `to`, with these records among them, in map order: before each record the gap, then its own key if it has the class; and the gap behind the last
  unfoldable pub merged : ℕ → ℕ → List ℕ → List ℕ
  merged to at [] = blank at to
  merged to at (n ∷ ns) =
      let f = form_of m (get_or keys n 0) in
      blank at (start f) ++ (picked_around classes class (get_or keys n 0) n ++ merged to (end f) ns)

  -- of the block of a key: its own key if it lies in a record of the class, else the gaps and the records of the class among those that overlap it
  unfoldable pub sparse_selected : ℕ → List ℕ
  sparse_selected key =
      let f = form_of m key in
      cond (any (around m keys classes class key) (up_from 0 (length keys))) (key ∷ []) (merged (end f) (start f) (met m keys key))

-- the keys to select: those of the window's maximal blocks, in their order
unfoldable pub sparse_selection : ℕ → ℕ → ℕ → List ℕ → List ℕ → Window → ℕ → List ℕ
sparse_selection m top background keys classes W class = flat_map (sparse_selected m background keys classes class) (keys_of m top W)
