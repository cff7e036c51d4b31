-- `openings::next_opening` meets its contract, by the invariant beside this.
use native.Mathlib.Omega.{arith}
use Rattle.window.proofs.Laws.{inside-12}
use Rattle.border.proofs.Loops.{reached-done}
use Rattle.openings.proofs.Looking.{looking-end, looking-ready, looking-next, looking-room, looking-found}
use Rattle.openings.proofs.next_opening.Goals as goal

pub returns-then-at-eq0 : goal.returns-then-at-eq0
returns-then-at-eq0 c = reached-done c.requires.1 c.if-at-eq0.true

pub blocks_from-ahead-requires : goal.blocks_from-ahead-requires
blocks_from-ahead-requires c = let u = c.requires.0 in (omega (arith, u.small, u.cap), inside-12 u.small u.inside, c.requires.1.walked.cursor)

pub step-requires : goal.step-requires
step-requires c = looking-ready c.requires.0 c.loop-block.invariant c.in-Some.ensures.steps

pub overflow_sub-at : goal.overflow_sub-at
overflow_sub-at c = looking-room c.requires.0 c.loop-block.invariant c.in-Some.ensures.steps c.in-Some-step.ensures

pub returns-in-Some-step : goal.returns-in-Some-step
returns-in-Some-step c = looking-found c.requires.0 c.loop-block.invariant c.in-Some.ensures.steps c.in-Some-step.ensures

pub loop-block-preserved : goal.loop-block-preserved
loop-block-preserved c = looking-next c.requires.0 c.loop-block.invariant c.in-Some.ensures.steps c.in_default-step.ensures

pub returns : goal.returns
returns c = looking-end c.requires.0 c.loop-block.invariant c.in_default.ensures.steps
