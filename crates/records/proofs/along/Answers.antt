-- `records::along` meets its contract, by the invariant beside this.
use Rattle.std.proofs.Common.{◌≤◌, arith}
use Rattle.key.proofs.Laws.{fits-block}
use Rattle.map.specs.Walk.{none, more}
use Rattle.records.proofs.along.Goals as goal

pub loop-next-init : goal.loop-next-init
loop-next-init c = (omega arith, c.requires.2, c.requires.1, none)

pub returns-in_default : goal.returns-in_default
returns-in_default c =
    let v = c.loop-next.invariant in
    record { onward = v.0; within = v.1; stands = v.2; row = v.3; ends = λ l. c.in_default.ensures }

pub loop-next-preserved : goal.loop-next-preserved
loop-next-preserved c =
    let v = c.loop-next.invariant in
    let l = c.loop-next-test.true in
    (omega (arith, v.0), omega (arith, l), c.advance-spot.ensures.1, more v.3 l (fits-block c.in-Some.ensures) c.advance-spot.ensures.0)

pub returns : goal.returns
returns c =
    let v = c.loop-next.invariant in
    record { onward = v.0; within = v.1; stands = v.2; row = v.3; ends = λ l. absurd (omega (arith, c.loop-next-test.false)) }
