-- What an accepted call of opening answers and leaves.
-- Assumes nothing.
use mathlib.Core.List.{List}
use Prim.Native.Nat.{ℕ}
use lib.ListN.{length}
use Rattle.std.specs.Prelude.{Result, Ok}
use Rattle.answers.specs.declared.Refused.{Refused}
use Rattle.answers.specs.Cells.{overwrite}
use Rattle.answers.specs.After.{After, after}
use Rattle.window.specs.declared.Window.{Window}
use Rattle.border.specs.declared.Totals.{Totals}
use Rattle.border.specs.Openings.{openings, handed_count, cells_of}
use Rattle.used.specs.Used.{spent}
use Rattle.open.specs.Open.{counted}

-- the same where nothing is refused
unfoldable pub accepted : ℕ → ℕ → List ℕ → Window → List ℕ → List ℕ → After (Result Totals Refused) (List ℕ × List ℕ)
accepted m top keys W border out = let os = openings m top keys W in after (Ok (counted (length os) (handed_count os))) (spent W border, overwrite (cells_of os) out)
