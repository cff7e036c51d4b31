-- `many::put_lines` meets its contract, by the invariant beside this.
use mathlib.Core.Path.{◌∙◌}
use Prim.Native.Nat.{◌/◌, ◌<◌}
use native.Mathlib.Omega.{arith}
use lib.ListN.{length}
use Rattle.many.proofs.Windows.{four-at}
use Rattle.many.proofs.Loops.{telling-first, telling-wide, telling-room, telling-next, telling-last}
use Rattle.many.proofs.put_lines.Goals as goal

pub loop-i-init : goal.loop-i-init
loop-i-init c = telling-first _ _ _ _ _

pub line_of-line-requires : goal.line_of-line-requires
line_of-line-requires c =
    let turn : c.loop-i.i < length c.args.windows.now / 4 = omega (arith, c.loop-i-test.true, c.as_chunks.ensures.front_len) in
    let same = c.window_of.ensures ∙ four-at _ c.as_chunks.ensures.front turn in
    (c.requires.0, rw same (telling-wide _ _ _ _ _ c.requires.1 c.requires.2 c.loop-i.invariant turn))

pub put_line-requires : goal.put_line-requires
put_line-requires c = telling-room _ _ _ _ _ c.requires.1 c.requires.2 c.loop-i.invariant (omega (arith, c.loop-i-test.true, c.as_chunks.ensures.front_len))

pub loop-i-preserved : goal.loop-i-preserved
loop-i-preserved c =
    let turn : c.loop-i.i < length c.args.windows.now / 4 = omega (arith, c.loop-i-test.true, c.as_chunks.ensures.front_len) in
    let same = c.window_of.ensures ∙ four-at _ c.as_chunks.ensures.front turn in
    telling-next
    _ _ _ _ _ c.requires.1 c.requires.2 c.loop-i.invariant turn
    (rw (← same) c.line_of-line.ensures.0)
    (rw (← same) c.line_of-line.ensures.1)
    c.line_of-line.auto.border
    c.put_line.ensures

pub returns : goal.returns
returns c = telling-last _ _ _ _ _ c.loop-i.invariant (omega (arith, c.loop-i-test.false, c.as_chunks.ensures.front_len))
