-- `pieces::first_stand` meets its contract.
use native.Mathlib.Omega.{arith}
use Rattle.pieces.proofs.Cursors.{at_first}
use Rattle.pieces.proofs.first_stand.Goals as goal

pub returns : goal.returns
returns c =
    let today = c.read_record-today.ensures in
    let under = c.read_record-under.ensures in
    record { within = omega arith; today = at_first today.0 today.1; under = at_first under.0 under.1 }
