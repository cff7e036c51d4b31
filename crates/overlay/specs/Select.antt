-- Selecting a class by any rule that gives places classes: of each maximal block the fewest blocks that make up its places of the class.
-- Assumes nothing.
use Rattle.std.specs.Prelude.{Bool, ◌&&◌, ℕ, ◌-◌, eqb}
use mathlib.Core.List.{List, flat_map}
use Rattle.key.specs.Form.{form_of}
use Rattle.window.specs.declared.Window.{Window}
use Rattle.window.specs.Keys.{keys_of}
use Rattle.map.specs.Spans.{start, end}
use Rattle.stretch.specs.Sets.{between}
use Rattle.stretch.specs.Fewest.{fewest}

module _ (m : ℕ) (rule : ℕ → ℕ) where
  -- place q is one from a up to b, and has the class
  unfoldable pub of_class : ℕ → ℕ → ℕ → ℕ → Bool
  of_class class a b q = between a b q && eqb (rule q) class

  -- the keys of the fewest blocks that make up these places, in key order
  unfoldable pub class_blocks : ℕ → ℕ → ℕ → List ℕ
  class_blocks class a b = fewest m (of_class class a b) a (b - a)

  -- those of the block of a key
  unfoldable pub class_selected : ℕ → ℕ → List ℕ
  class_selected class key = let f = form_of m key in class_blocks class (start f) (end f)

  -- the keys to select: those of the window's maximal blocks, in their order
  unfoldable pub class_selection : Window → ℕ → List ℕ
  class_selection W class = flat_map (class_selected class) (keys_of m m W)
