-- `step::step` meets its contract. The two ways it ends are laws of `Steps`.
use native.Mathlib.Omega.{arith}
use Rattle.window.proofs.Laws.{inside-12}
use Rattle.border.proofs.Loops.{step-pixel, step-name, step_block, step-reach, step_small, step-skipped, step-opened}
use Rattle.step.proofs.step.Goals as goal

pub returns-then-block-border : goal.returns-then-block-border
returns-then-block-border c = step-skipped c.requires _ (omega (arith, c.if-block-border.true))

pub block_key-key-requires : goal.block_key-key-requires
block_key-key-requires c = let p = step-pixel c.requires in (c.requires.given.small, p.0, p.1)

pub records_of-run-requires : goal.records_of-run-requires
records_of-run-requires c =
    let k = c.requires in
    (k.given.small, k.given.few, k.given.spaced, step_block k (step-name k c.block_key-key.ensures))

pub push-closed-requires : goal.push-closed-requires
push-closed-requires c =
    let k = c.requires in
    let far = step-reach k (step-name k c.block_key-key.ensures) c.records_of-run.ensures in
    (omega (arith, far, step_small k, k.given.small), inside-12 k.given.small k.given.inside, k.corner.inside, k.given.wide)

pub returns : goal.returns
returns c =
    let k = c.requires in
    let name = step-name k c.block_key-key.ensures in
    step-opened k _ (omega (arith, c.if-block-border.false)) k.given.wide name c.records_of-run.ensures c.push-closed.ensures.0 c.push-closed.ensures.1
