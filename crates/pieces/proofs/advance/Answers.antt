-- `pieces::advance` meets its contract.
use native.Mathlib.Omega.{arith}
use Rattle.pieces.proofs.Cursors.{advance-next}
use Rattle.pieces.proofs.advance.Goals as goal

pub returns : goal.returns
returns c = let p = c.requires in advance-next p.2 p.5 p.3 (omega (arith, c.if-a-cursor.false)) p.6 c.read_record.ensures.0 c.read_record.ensures.1
