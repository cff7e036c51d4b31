-- `text::spell` meets its contract, by the invariant beside this.
use Rattle.text.proofs.Steps.{spell_next}
use Rattle.text.proofs.spell.Goals as goal

pub loop-i-preserved : goal.loop-i-preserved
loop-i-preserved c = spell_next c.loop-i.invariant c.loop-i-test.true
