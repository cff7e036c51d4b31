-- `streams::write` meets its contract: a write that failed hands nothing over.
use Rattle.std.specs.Io.KnownBytes.{Keeps}
use Rattle.streams.proofs.write.Given as goal

abbrev pub invariant-loop : goal.invariant-loop
invariant-loop g l = Keeps (g.W.Write.contents l.initial.to) (g.W.Write.contents l.to)
