-- The keys of a window's maximal blocks.
-- Assumes nothing.
use Rattle.std.specs.Prelude.{List, map, ℕ}
use Rattle.key.specs.Picture.{Px}
use Rattle.key.specs.Key.{block_key}
use Rattle.window.specs.declared.Window.{Window}
use Rattle.window.specs.Blocks.{exponent, maximal}

-- the key of a pixel's maximal block
unfoldable pub key_of : ℕ → ℕ → Window → Px → ℕ
key_of m top W p = block_key m (exponent W top p) p.0 p.1

-- the keys of all maximal blocks, in their order
unfoldable pub keys_of : ℕ → ℕ → Window → List ℕ
keys_of m top W = map (key_of m top W) (maximal W top)
