-- Records that are known while one block after another is looked up.
-- Assumes nothing.
use Rattle.std.specs.Prelude.{◌≡◌, List, ℕ, ◌<◌}
use Rattle.map.specs.declared.Run.{Run}
use Rattle.map.specs.Runs.{BlockOf, run_of}
use Rattle.near.specs.declared.Near.{Near}
use Rattle.near.specs.declared.Seen.{Seen}

abbrev pub seen : Run → Near → Near → Seen
seen run near other = record { run = run; near = near; other = other }

-- a key behind that of the record, and before the end of its keys
pub record LiesIn (n : Near) (key : ℕ) : Type 0 where
  pub behind : n.from < key
  pub before : key < n.end

-- each block that lies in the record overlaps it alone, and it reaches further
pub record Known (m : ℕ) (keys : List ℕ) (n : Near) : Type 0 where
  pub first : (key i : ℕ) → BlockOf m key i → LiesIn n key → (run_of m keys key).first ≡ n.first
  pub reach : (key i : ℕ) → BlockOf m key i → LiesIn n key → i < (run_of m keys key).reach

-- the records that overlap the block of a key, and two records that are known
pub record Sees (m : ℕ) (keys : List ℕ) (key : ℕ) (s : Seen) : Type 0 where
  pub is : s.run ≡ run_of m keys key
  pub near-known : Known m keys s.near
  pub other-known : Known m keys s.other
