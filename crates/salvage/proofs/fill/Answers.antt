-- `salvage::fill` meets its contract, by the invariant beside this.
use native.Mathlib.Omega.{arith}
use Rattle.salvage.proofs.Filling.{filling-first, filling-room, filling-next, filling-last}
use Rattle.salvage.proofs.fill.Goals as goal

pub loop-now-init : goal.loop-now-init
loop-now-init c = filling-first _ c.requires.1 c.requires.2

pub put_entry-requires : goal.put_entry-requires
put_entry-requires c = omega (arith, (filling-room c.loop-now.invariant c.next_block-next.ensures c.requires.4).1)

pub overflow_add-now : goal.overflow_add-now
overflow_add-now c = omega (arith, (filling-room c.loop-now.invariant c.next_block-next.ensures c.requires.4).0)

pub overflow_add-now-in-loop-now : goal.overflow_add-now-in-loop-now
overflow_add-now-in-loop-now c = omega (arith, (filling-room c.loop-now.invariant c.next_block-next.ensures c.requires.4).1)

pub loop-now-preserved : goal.loop-now-preserved
loop-now-preserved c =
    let r = c.put_record.ensures in
    filling-next c.loop-now.invariant c.next_block-next.ensures r.key_put r.class_put c.put_entry.ensures

pub returns-clause-gap_filled : goal.returns-clause-gap_filled
returns-clause-gap_filled c = (filling-last c.loop-now.invariant c.loop-now-test.false).1
