-- `text::put_number` meets its contract.
use mathlib.Core.Path.{sym}
use native.Mathlib.Omega.{arith}
use lib.ListN.{length-take}
use Rattle.text.proofs.Digits.{put-none}
use Rattle.text.proofs.Steps.{put_front}
use Rattle.text.proofs.put_number.Goals as goal

pub returns-then-out-n : goal.returns-then-out-n
returns-then-out-n c = sym (put-none _ _ (omega (arith, c.if-out-n.true)))

pub spell-requires : goal.spell-requires
spell-requires c = simp length-take (omega (arith, c.if-out-n.false))

pub returns : goal.returns
returns c = put_front _ _ c.width-n.ensures c.spell.ensures c.if-out-n.false
