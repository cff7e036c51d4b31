-- `numbers::get_all` meets its contract, by the invariant beside this.
use borrow.Author.Rules.{rules}
use Rattle.numbers.proofs.Steps.{get_first, get-next, get-last}
use Rattle.numbers.proofs.get_all.Goals as goal

pub loop-i-init : goal.loop-i-init
loop-i-init c = get_first _ _

pub loop-i-preserved : goal.loop-i-preserved
loop-i-preserved c = get-next c.args.from.now c.loop-i.i c.loop-i.invariant c.get.ensures (search rules)

pub returns : goal.returns
returns c = get-last c.args.from.now c.loop-i.i c.loop-i.invariant (search rules)
