-- The records of a map that overlap a block, as the viewer's part asks for them.
-- Assumes nothing.
use Rattle.std.specs.Prelude.{◌≡◌, List, ℕ}
use Rattle.map.specs.Runs.{run_of}
use Rattle.overlay.specs.declared.Records.{Records}

-- they are those that overlap the block of the key; where there are none, the first is of no account
pub record Meeting (m : ℕ) (keys : List ℕ) (key : ℕ) (r : Records) : Type 0 where
  pub count : r.count ≡ (run_of m keys key).count
  pub first : ¬ (r.count ≡ 0) → r.first ≡ (run_of m keys key).first
