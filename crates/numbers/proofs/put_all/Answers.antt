-- `numbers::put_all` meets its contract, by the invariant beside this.
use borrow.Author.Rules.{rules}
use Rattle.numbers.proofs.Steps.{put_first, put_next}
use Rattle.numbers.proofs.put_all.Goals as goal

pub loop-i-init : goal.loop-i-init
loop-i-init c = put_first _

pub loop-i-preserved : goal.loop-i-preserved
loop-i-preserved c = put_next c.args.list.now c.loop-i.i c.loop-i.invariant c.put.ensures (search rules) (search rules)
