-- `digits::reach_over` meets its contract, by the invariant beside this.
use Rattle.std.proofs.Common.{◌≡◌, ◌+◌, ◌-◌, ◌*◌, ◌≤◌, arith}
use Rattle.key.proofs.Laws.{pow-least, pow-most}
use Rattle.key.proofs.Loops.{Grown, grown-first, grown-next, grown-most, below-room, reached, unreached, reached-all}
use Rattle.digits.proofs.reach_over.Goals as goal
use Rattle.digits.proofs.reach_over.Goals.{In-loop-p}

pub returns-then-own-eq0 : goal.returns-then-own-eq0
returns-then-own-eq0 c = reached-all c.requires.1 c.if-own-eq0.true

pub pow5-p-requires : goal.pow5-p-requires
pow5-p-requires c = omega (arith, (below-room c.requires.1).small)

pub loop-p-init : goal.loop-p-init
loop-p-init c = grown-first c.pow5-p.ensures.is

-- the state after the turn
module _ (c : In-loop-p) where
  next : Grown c.args.i (c.args.key - c.args.own) (c.loop-p.p * 5) (c.loop-p.e + 1)
  next = let times : c.loop-p.p * 5 ≡ 5 * c.loop-p.p = omega arith in rw times (grown-next c.loop-p.invariant c.loop-p-test.true)

  room : c.loop-p.e + 1 ≤ c.args.m
  room = grown-most c.requires.1 next

pub overflow_mul-p : goal.overflow_mul-p
overflow_mul-p c = omega (arith, (below-room c.requires.1).keys, pow-least 4 c.args.i, pow-most 4 c.args.m c.requires.0)

pub overflow_add-e : goal.overflow_add-e
overflow_add-e c = omega (arith, room c)

pub loop-p-smaller : goal.loop-p-smaller
loop-p-smaller c = omega (arith, room c)

pub loop-p-preserved : goal.loop-p-preserved
loop-p-preserved c = next c

pub returns-then-own-p-ne0 : goal.returns-then-own-p-ne0
returns-then-own-p-ne0 c = unreached c.requires.1 c.loop-p.invariant (omega arith) c.if-own-p-ne0.true

pub returns : goal.returns
returns c = reached c.requires.1 c.loop-p.invariant (omega arith) c.if-own-p-ne0.false
