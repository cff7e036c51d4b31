-- `overlay::put_all` meets its contract. The invariant is `Walking`, and where both maps stand.
use Rattle.sparse_select.proofs.Laws.{Walking}
use Rattle.pieces.specs.Pair.{class_over_map}
use Rattle.pieces.specs.Cursors.{StandsAt}
use Rattle.overlay.specs.Select.{class_selected}
use Rattle.overlay.proofs.put_all.Given as goal

abbrev pub invariant-loop-block : goal.invariant-loop-block
invariant-loop-block l = record {
  walking : Walking l.m l.m l.fn.window (class_selected l.m (class_over_map l.m l.keys l.classes l.base l.beneath) l.class) l.initial.out l.out l.block-iterator l.n;
  stands : StandsAt l.m l.keys l.base l.at;
}
