-- `pieces::seek_near` meets its contract.
use native.Mathlib.Omega.{arith}
use Rattle.pieces.proofs.Cursors.{near-later, near-own}
use Rattle.pieces.proofs.seek_near.Goals as goal

pub returns-then-known-a : goal.returns-then-known-a
returns-then-known-a c = let p = c.requires in near-later p.1 p.3 (omega (arith, c.if-cursor-a.false)) c.if-known-a.true

pub returns-then-cursor-a-2 : goal.returns-then-cursor-a-2
returns-then-cursor-a-2 c = let p = c.requires in near-own p.1 p.3 (omega (arith, c.if-cursor-a.false)) c.if-cursor-a-2.true
