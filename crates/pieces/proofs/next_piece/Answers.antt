-- `pieces::next_piece` meets its contract.
use mathlib.Core.Path.{refl}
use native.Mathlib.Omega.{arith}
use Rattle.pieces.proofs.Pieces.{under-within, gap-piece, held-piece}
use Rattle.pieces.proofs.next_piece.Goals as goal

pub bounds-beneath-n : goal.bounds-beneath-n
bounds-beneath-n c = let p = c.requires in omega (arith, under-within p.0 p.1 p.2 p.3, p.0.under_classed)

pub returns-then-stand-today : goal.returns-then-stand-today
returns-then-stand-today c = let p = c.requires in gap-piece _ _ p.0 p.1 p.2 p.3 c.min-near.ensures c.if-stand-today.true c.min-end.ensures refl

pub returns : goal.returns
returns c = let p = c.requires in held-piece _ _ p.0 p.1 p.2 p.3 c.min-near.ensures (omega (arith, c.if-stand-today.false)) c.min-end-2.ensures refl
