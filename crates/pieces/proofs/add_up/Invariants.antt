-- `pieces::add_up` meets its contract. The invariant is `Reporting`: the places of the blocks that have come are counted; and both maps stand at one place.
use Rattle.pieces.specs.Pair.{class_over_map}
use Rattle.pieces.specs.Cursors.{StandsAt}
use Rattle.pieces.proofs.Reports.{Reporting}
use Rattle.pieces.proofs.add_up.Given as goal

abbrev pub invariant-loop-block : goal.invariant-loop-block
invariant-loop-block l =
    Reporting (class_over_map l.m l.keys l.classes l.base l.beneath) l.fn.window l.m l.totals l.block-iterator × StandsAt l.m l.keys l.base l.at
