-- `spots::first_spot` meets its contract: the picture itself starts at the first place.
use Rattle.std.proofs.Common.{refl}
use Rattle.key.proofs.Loops.{first-stands}
use Rattle.spots.proofs.first_spot.Goals as goal

pub returns : goal.returns
returns c = (refl, first-stands refl refl refl)
