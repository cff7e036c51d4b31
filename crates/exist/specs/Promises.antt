-- The words in which it is said what exist answers on a whole map.
-- Assumes nothing.
use Rattle.std.specs.Prelude.{Bool, List, ℕ}
use Rattle.window.specs.declared.Window.{Window}
use Rattle.window.specs.Rules.{exists_by}
use Rattle.map.specs.Classes.{class_in}
use Rattle.exist.specs.declared.Existence.{Existence}
use Rattle.exist.specs.Exist.{presence_by}

-- some pixel of the window has the class
abbrev pub exists : ℕ → List ℕ → List ℕ → Window → ℕ → Bool
exists m keys classes = exists_by (class_in m keys classes)

-- one of the three
abbrev pub presence : ℕ → List ℕ → List ℕ → Window → ℕ → Existence
presence m keys classes = presence_by (class_in m keys classes)
