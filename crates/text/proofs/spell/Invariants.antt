-- `text::spell` meets its contract. The invariant: from place i on stand the last digits of x, and `rest` is the number of those before.
use Rattle.text.proofs.Steps.{Spelling}
use Rattle.text.proofs.spell.Given as goal

abbrev pub invariant-loop-i : goal.invariant-loop-i
invariant-loop-i l = Spelling l.x l.i l.rest l.to
