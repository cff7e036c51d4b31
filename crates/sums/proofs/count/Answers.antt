-- `sums::count` meets its contract, by the invariant beside this.
use mathlib.Core.Path.{◌∙◌}
use Rattle.border.proofs.Laws.{fresh-spent, finding-first, finding-last, finds-opens}
use Rattle.totals.proofs.Loops.{totalling-first, totalling-hands, totalling-once, totalling-next, totalling-last}
use Rattle.sums.proofs.count.Goals as goal

pub loop-opening-init : goal.loop-opening-init
loop-opening-init c = rw (c.start-at.ensures, c.requires.2) (totalling-first _ (finding-first _ c.requires.0 c.fill.ensures))

pub gather-requires : goal.gather-requires
gather-requires c =
    let T = c.loop-opening.invariant in
    let O = finds-opens c.requires.0 T.finding c.in-Some.ensures in
    (totalling-hands _ c.requires.0 c.requires.3 T O c.requires.1, totalling-once _ c.requires.0 c.requires.3 T O)

pub loop-opening-preserved : goal.loop-opening-preserved
loop-opening-preserved c =
    let T = c.loop-opening.invariant in
    totalling-next _ c.requires.0 c.requires.3 T (finds-opens c.requires.0 T.finding c.in-Some.ensures) c.gather.ensures

pub returns : goal.returns
returns c =
    let T = c.loop-opening.invariant in (
      totalling-last _ c.requires.0 c.requires.3 T c.in_default.ensures,
      (finding-last T.finding c.in_default.ensures).1 ∙ fresh-spent _ c.requires.0 c.fill.ensures,
    )
