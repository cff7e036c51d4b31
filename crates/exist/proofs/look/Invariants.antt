-- `exist::look` meets its contract. Along the loop both are known of the records before it.
use Rattle.map.specs.Classes.{classed, not_seen}
use Rattle.exist.proofs.Seeking.{Looking}
use Rattle.exist.proofs.look.Given as goal

abbrev pub invariant-loop-here : goal.invariant-loop-here
invariant-loop-here l =
    Looking (classed l.classes l.class) l.fn.run.first l.here-index l.has × Looking (classed l.classes not_seen) l.fn.run.first l.here-index l.unseen
