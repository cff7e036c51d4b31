-- `pieces::find` meets its contract. The invariant is `Finding`: none of the blocks that have come has the class; and both maps stand at one place.
use Rattle.pieces.specs.Pair.{class_over_map}
use Rattle.pieces.specs.Cursors.{StandsAt}
use Rattle.pieces.proofs.Findings.{Finding}
use Rattle.pieces.proofs.find.Given as goal

abbrev pub invariant-loop-block : goal.invariant-loop-block
invariant-loop-block l =
    Finding (class_over_map l.m l.keys l.classes l.base l.beneath) l.class l.m l.fn.window l.block-iterator l.unseen × StandsAt l.m l.keys l.base l.at
