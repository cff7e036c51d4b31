-- `gather::gather` meets its contract. A record that reaches beyond the block is added in one step of `Adding`, those that fill it are those of `gather_run`.
use mathlib.Core.Path.{sym, ◌∙◌}
use Prim.Native.Nat.{◌+◌, ◌<◌}
use native.Mathlib.Omega.{arith}
use lib.ListN.{get_or}
use Rattle.window.proofs.Laws.{inside-12}
use Rattle.totals.proofs.Loops.{hands-alone, hands-small, hands-single, hands-fill, adding-first, adding-most, adding-next, adding-last}
use Rattle.gather.proofs.gather.Goals as goal

pub clipped-area-requires : goal.clipped-area-requires
clipped-area-requires c =
    let h = c.requires.0 in
    (omega (arith, hands-small h c.if-block-run.true, h.given.small), inside-12 h.given.small h.given.inside, h.corner.inside)

pub bounds-classes-run : goal.bounds-classes-run
bounds-classes-run c = omega (arith, c.requires.0.room, hands-alone c.requires.0 c.if-block-run.true)

pub overflow_add-totals : goal.overflow_add-totals
overflow_add-totals c =
    let h = c.requires.0 in
    let first = c.args.opening.run.first in
    let only : first < first + c.args.opening.run.count = omega (arith, hands-alone h c.if-block-run.true) in
    let byte : get_or c.args.classes.now first 0 < 256 = omega (arith, c.type_inv.classes first) in
    let part = c.clipped-area.ensures ∙ sym (hands-single h c.if-block-run.true) in
    omega (arith, adding-most (adding-first c.requires.1) only (inside-12 h.given.small h.given.inside) byte, part)

pub returns-then-block-run : goal.returns-then-block-run
returns-then-block-run c =
    let h = c.requires.0 in
    let one = hands-alone h c.if-block-run.true in
    let part = c.clipped-area.ensures ∙ sym (hands-single h c.if-block-run.true) in
    adding-last _ (adding-next (adding-first c.requires.1) (omega (arith, one)) part) (omega (arith, one))

pub gather_run-requires : goal.gather_run-requires
gather_run-requires c = (hands-fill c.requires.0 (omega (arith, c.if-block-run.false)), c.requires.1)
