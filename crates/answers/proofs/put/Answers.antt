-- `answers::put` meets its contract.
use mathlib.Core.Path.{sym}
use native.Mathlib.Omega.{arith}
use Rattle.answers.proofs.Listing.{put-there, put-late}
use Rattle.answers.proofs.put.Goals as goal

pub returns-then-at-out : goal.returns-then-at-out
returns-then-at-out g c = sym (put-there _ _ _ (omega (arith, c.if-at-out.true)))

pub returns-else-at-out : goal.returns-else-at-out
returns-else-at-out g c = sym (put-late _ _ _ (omega (arith, c.if-at-out.false)))
