-- `streams::take` meets its contract, by the invariant beside this.
use Rattle.std.proofs.Common.{rules}
use Rattle.streams.proofs.Known.{more_taken}
use Rattle.streams.proofs.take.Goals as goal

pub loop-count-preserved : goal.loop-count-preserved
loop-count-preserved g c = (search rules, search rules, more_taken _ _ _ _ _ _ _ _ c.loop-count.invariant.1 c.in-Ok.ensures.bound.0 c.loop-count.invariant.2 c.in-Ok.ensures.bytes.0)
