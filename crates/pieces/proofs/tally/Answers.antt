-- `pieces::tally` meets its contract, by the invariant beside this.
use native.Mathlib.Omega.{arith}
use Rattle.pieces.proofs.Tallies.{tallying-first, tallying-fits, tallying-next}
use Rattle.pieces.proofs.tally.Goals as goal

pub loop-stand-init : goal.loop-stand-init
loop-stand-init c = tallying-first _ c.requires.2 c.requires.1

pub overflow_add-totals : goal.overflow_add-totals
overflow_add-totals c =
    let p = c.requires in
    omega (arith, tallying-fits c.loop-stand.invariant c.next_piece-piece.ensures.0 (omega (arith, p.4)) p.5 (omega arith))

pub loop-stand-preserved : goal.loop-stand-preserved
loop-stand-preserved c =
    let to = c.go_on-stand.ensures in
    tallying-next c.loop-stand.invariant c.next_piece-piece.ensures.0 (omega (arith, c.requires.4)) to.0 to.1
