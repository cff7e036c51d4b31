-- `many::widest` meets its contract, by the invariant beside this.
use mathlib.Core.Path.{ap, ◌∙◌}
use Prim.Native.Nat.{max, ◌/◌, ◌<◌}
use native.Mathlib.Omega.{arith}
use lib.ListN.{length}
use Rattle.many.specs.Many.{columns}
use Rattle.many.proofs.Windows.{four-at}
use Rattle.many.proofs.Loops.{widening-first, widening-next, widening-last}
use Rattle.many.proofs.widest.Goals as goal

pub loop-cells-init : goal.loop-cells-init
loop-cells-init c = widening-first _ _

pub loop-cells-preserved : goal.loop-cells-preserved
loop-cells-preserved c =
    let turn : c.loop-cells.cells-index < length c.args.windows.now / 4 = omega (arith, c.loop-cells-test.true, c.as_chunks.ensures.front_len) in
    let needed = c.columns.ensures ∙ ap (columns c.args.m) (c.window_of.ensures ∙ four-at _ c.as_chunks.ensures.front turn) in
    widening-next _ _ c.loop-cells.invariant turn (c.max-widest.ensures ∙ ap (max c.loop-cells.widest) needed)

pub returns : goal.returns
returns c = widening-last _ _ c.loop-cells.invariant (omega (arith, c.loop-cells-test.false, c.as_chunks.ensures.front_len))
