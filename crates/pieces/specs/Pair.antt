-- Today's map, which may have gaps, over a complete baseline: both maps, and the class of a place.
-- Assumes nothing.
use Rattle.std.specs.Prelude.{◌≡◌, List, ℕ, ◌≤◌, length}
use Rattle.map.specs.Sound.{Follow, Spaced}
use Rattle.map.specs.Classes.{class_over, class_in}

-- today's map and the baseline, of either the keys and the number of classes: each record has its class
pub record Pair (m : ℕ) (keys : List ℕ) (classes : ℕ) (base : List ℕ) (base_classes : ℕ) : Type 0 where
  pub small : m ≤ 12
  pub few : length keys ≤ 65536
  pub under_few : length base ≤ 65536
  pub today : Spaced m 0 keys
  pub under : Follow m 0 base
  pub classed : length keys ≡ classes
  pub under_classed : length base ≡ base_classes

-- a place has the class of today's record, or else that of the baseline's
unfoldable pub class_over_map : ℕ → List ℕ → List ℕ → List ℕ → List ℕ → ℕ → ℕ
class_over_map m keys classes base base_classes q = class_over (class_in m base base_classes q) m keys classes q
