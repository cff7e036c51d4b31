-- `reply::put_next` meets its contract.
use Rattle.reply.proofs.Steps.{next-left, next-window}
use Rattle.reply.proofs.put_next.Goals as goal

pub returns-then-got-lt8 : goal.returns-then-got-lt8
returns-then-got-lt8 c =
    let a = c.args in
    rw (next-left a.m a.keys.now a.classes.now a.got a.bytes.now c.if-got-lt8.true) c.put_left.ensures

pub returns : goal.returns
returns c =
    let a = c.args in
    rw (next-window a.m a.keys.now a.classes.now a.got a.bytes.now c.if-got-lt8.false, ← c.window_of.ensures) c.put_answer.ensures
