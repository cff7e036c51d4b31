-- `near::first_seen` meets its contract.
use Rattle.std.proofs.Common.{arith}
use Rattle.near.proofs.Known.{known-none, known-whole}
use Rattle.near.proofs.first_seen.Goals as goal

pub returns-then-keys-ne1 : goal.returns-then-keys-ne1
returns-then-keys-ne1 c = (known-none c.args.m c.args.keys.now, known-none c.args.m c.args.keys.now)

pub returns-then-keys-ne0 : goal.returns-then-keys-ne0
returns-then-keys-ne0 c = (known-none c.args.m c.args.keys.now, known-none c.args.m c.args.keys.now)

pub returns : goal.returns
returns c = (
  known-whole c.requires.1 (omega (arith, c.if-keys-ne1.false)) (omega (arith, c.if-keys-ne0.false)) c.pow5.ensures.is,
  known-none c.args.m c.args.keys.now,
)
