-- `answers::sizes` meets its contract: each test that holds says that the sizes are not right.
use mathlib.Core.Path.{sym}
use native.Mathlib.Omega.{arith}
use Rattle.std.proofs.Common.{rules}
use Rattle.answers.specs.Sizes.{SizedIn}
use Rattle.answers.proofs.Cells.{sized, over-12, not-sized}
use Rattle.answers.proofs.Tables.{refusing}
use Rattle.answers.proofs.sizes.Goals as goal

pub returns-then-m-gt12 : goal.returns-then-m-gt12
returns-then-m-gt12 c = refusing c.at.ensures (over-12 _ _ _ _ (omega arith))

pub returns-then-keys-classes : goal.returns-then-keys-classes
returns-then-keys-classes c =
    let wrong : SizedIn c.args.whole c.args.m c.args.keys c.args.classes → ⊥ = λ s. search rules in
    refusing c.at-then-keys-classes.ensures (not-sized _ _ _ _ c.if-m-gt12.false wrong)

pub returns : goal.returns
returns c = sym (sized.1 (record { small = omega arith; same = omega arith; some = λ e. search rules; most = omega arith }))
