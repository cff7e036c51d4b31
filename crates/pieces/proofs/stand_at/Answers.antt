-- `pieces::stand_at` meets its contract.
use mathlib.Core.Path.{refl}
use native.Mathlib.Omega.{arith}
use Rattle.key.proofs.Laws.{block-lies}
use Rattle.pieces.proofs.stand_at.Goals as goal

pub returns : goal.returns
returns c =
    (refl, record { within = omega (arith, (block-lies c.requires.4.names).span); today = c.seek_near-today.ensures; under = c.seek_near-under.ensures })
