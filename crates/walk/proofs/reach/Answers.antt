-- `walk::reach` meets its contract: bits in which two numbers differ tell in which blocks both lie.
use mathlib.Core.Path.{refl}
use Rattle.window.proofs.Loops.{reach_of}
use Rattle.walk.proofs.reach.Goals as goal

pub returns : goal.returns
returns c = reach_of c.requires refl refl c.min.ensures
