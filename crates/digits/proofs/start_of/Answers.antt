-- `digits::start_of` meets its contract, by the invariant beside this.
use Rattle.std.proofs.Common.{◌≡◌, ◌+◌, ◌*◌, ◌%◌, arith}
use Rattle.key.proofs.Loops.{starts-entry, starting-next, starting-last}
use Rattle.digits.proofs.start_of.Goals as goal

pub loop-k-preserved : goal.loop-k-preserved
loop-k-preserved c =
    let two : 2 * (c.loop-k.k + 1) ≡ 2 * c.loop-k.k + 2 = omega arith in
    rw two (starting-next c.loop-k.invariant (omega arith) (starts-entry (c.loop-k.left % 25) c.starts_table.ensures (omega arith)) c.pow4.ensures.is)

pub returns : goal.returns
returns c = starting-last c.loop-k.invariant (omega arith)
