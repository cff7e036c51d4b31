-- `pieces::seek` meets its contract.
use native.Mathlib.Omega.{arith}
use Rattle.map.specs.Runs.{Splits}
use Rattle.map.proofs.Laws.{keys-rise}
use Rattle.map.proofs.Loops.{between_first}
use Rattle.pieces.proofs.Cursors.{past-none, past-last, seek-here, seek-before}
use Rattle.pieces.proofs.seek.Goals as goal

pub keys_below-next-requires : goal.keys_below-next-requires
keys_below-next-requires c = (keys-rise c.requires.1, between_first _ _)

pub returns-then-next-eq0 : goal.returns-then-next-eq0
returns-then-next-eq0 c =
    let none : Splits c.args.keys.now c.args.key 0 = rw c.if-next-eq0.true at c.keys_below-next.ensures in
    seek-here c.requires.1 c.requires.2.names none c.read_record.ensures.1 c.read_record.ensures.0 (past-none _ _ _)

pub returns-then-a-before : goal.returns-then-a-before
returns-then-a-before c =
    let r = c.read_record-before.ensures in
    seek-before c.requires.1 c.requires.2.names c.keys_below-next.ensures r.1 r.0 c.if-next-eq0.false c.if-a-before.true

pub returns : goal.returns
returns c =
    let r = c.read_record-before.ensures in
    seek-here c.requires.1 c.requires.2.names c.keys_below-next.ensures c.read_record-2.ensures.1 c.read_record-2.ensures.0
    (past-last c.requires.1 c.requires.2.names r.1 r.0 c.if-next-eq0.false (omega (arith, c.if-a-before.false)))
