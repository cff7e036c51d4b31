-- What a block has of a class, by the run of records that overlap it.
-- Assumes nothing.
use Rattle.std.specs.Prelude.{cond, List, [], ◌∷◌, map, ℕ, ◌+◌, ◌≤◌, ◌<◌, ltb, length, get_or}
use Rattle.lists.specs.Lists.{up_from, keep}
use Rattle.map.specs.declared.Run.{Run}
use Rattle.map.specs.Classes.{classed}

-- the key of a block that lies in record n, if the record has the class
unfoldable pub picked_around : List ℕ → ℕ → ℕ → ℕ → List ℕ
picked_around classes class key n = cond (classed classes class n) (key ∷ []) []

module _ (keys classes : List ℕ) (class : ℕ) where
  -- the keys of the records of a run that have the class
  unfoldable pub picked_run : ℕ → ℕ → List ℕ
  picked_run first count = map (λ n. get_or keys n 0) (keep (classed classes class) (up_from first count))

  -- of a block of this key and exponent i: a record that reaches further contains it, and otherwise those of the run lie in it
  unfoldable pub picked : ℕ → ℕ → Run → List ℕ
  picked key i run = cond (ltb i run.reach) (picked_around classes class key run.first) (picked_run run.first run.count)

-- what the records of a block of exponent i are: records of the map, and one where they reach further
pub record Overlapped (keys : List ℕ) (i : ℕ) (run : Run) : Type 0 where
  pub some : i < run.reach → 1 ≤ run.count
  pub room : run.first + run.count ≤ length keys
