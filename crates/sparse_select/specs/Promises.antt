-- The words in which it is promised what is listed of a block: the records of the class, and the gaps with the fewest blocks.
-- Assumes nothing.
use Rattle.std.specs.Prelude.{Bool, not, ◌&&◌, List, ℕ}
use Rattle.key.specs.Form.{form_of}
use Rattle.map.specs.Spans.{start}
use Rattle.map.specs.Promises.{is_free}
use Rattle.stretch.specs.Sets.{between}

-- place q is one from a up to b, and in no record
unfoldable pub free_in : ℕ → List ℕ → ℕ → ℕ → ℕ → Bool
free_in m keys a b q = between a b q && is_free m keys q

-- the block of a key starts at a place in no record
unfoldable pub bare : ℕ → List ℕ → ℕ → Bool
bare m keys x = is_free m keys (start (form_of m x))

-- or in one
unfoldable pub held : ℕ → List ℕ → ℕ → Bool
held m keys x = not (bare m keys x)
