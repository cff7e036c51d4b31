-- Words of the laws: what has been handed out when some blocks have been gone through.
-- Assumes nothing.
use mathlib.Core.Bool.{cond}
use mathlib.Core.List.{List, [], map, ◌∷◌, ◌++◌}
use Prim.Native.Nat.{ℕ}
use Rattle.std.specs.Prelude.{Option}
use Rattle.key.specs.Picture.{Px}
use Rattle.window.specs.declared.Window.{Window}
use Rattle.window.specs.Keys.{key_of}
use Rattle.border.specs.declared.Opened.{Opened}
use Rattle.border.specs.Openings.{all_hands, met, is_handed}
use Rattle.border.specs.Step.{made_by}

-- the records that were handed out when these blocks have been gone through
unfoldable pub handed_after : ℕ → List ℕ → List ℕ → List ℕ → List ℕ
handed_after m keys handed [] = handed
handed_after m keys handed (k ∷ ks) = handed_after m keys (cond (is_handed m keys handed k) handed (handed ++ met m keys k)) ks

-- the records that were handed out when the blocks with these corners have been gone through
abbrev pub handed_by : ℕ → ℕ → List ℕ → Window → List Px → List ℕ
handed_by m top keys W bs = handed_after m keys [] (map (key_of m top W) bs)

-- the records that it hands out: the run of an opened block, or none
abbrev pub hands_by : Option Opened → List ℕ
hands_by answer = all_hands (made_by answer)
