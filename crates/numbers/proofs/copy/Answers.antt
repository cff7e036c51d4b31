-- `numbers::copy` meets its contract, by the invariant beside this.
use borrow.Author.Rules.{rules}
use Rattle.answers.proofs.Laws.{filling-first, copy-next, list-last}
use Rattle.numbers.proofs.copy.Goals as goal

pub loop-i-init : goal.loop-i-init
loop-i-init c = filling-first _

pub loop-i-preserved : goal.loop-i-preserved
loop-i-preserved c = copy-next c.args.from.now c.loop-i.i c.loop-i.invariant (search rules) (search rules)
