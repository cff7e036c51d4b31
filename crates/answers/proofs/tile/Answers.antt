-- `answers::tile` meets its contract: each test decides what its law in `Tiled` says.
use mathlib.Core.Path.{sym}
use native.Mathlib.Omega.{arith}
use Rattle.answers.proofs.Tiled.{tile-large, tile-over, tile-passed}
use Rattle.answers.proofs.Tables.{refusing}
use Rattle.answers.proofs.tile.Goals as goal

pub returns-then-m-gt12 : goal.returns-then-m-gt12
returns-then-m-gt12 c = refusing c.at.ensures (tile-large _ _ (omega arith))

pub returns-then-m-top : goal.returns-then-m-top
returns-then-m-top c = refusing c.at-then-m-top.ensures (tile-over _ _ (omega arith) (omega arith))

pub returns : goal.returns
returns c = sym ((tile-passed _ _).1 (omega arith, omega arith))
