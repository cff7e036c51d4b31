-- `pieces::look` meets its contract, by the invariant beside this.
use Rattle.pieces.proofs.Sights.{looking-first, looking-yes, looking-next}
use Rattle.pieces.proofs.look.Goals as goal

pub loop-stand-init : goal.loop-stand-init
loop-stand-init c = looking-first c.requires.2 c.requires.1

pub returns-then-piece-class : goal.returns-then-piece-class
returns-then-piece-class c = looking-yes c.loop-stand.invariant c.next_piece-piece.ensures.0 c.if-piece-class.true

pub loop-stand-preserved : goal.loop-stand-preserved
loop-stand-preserved c =
    let to = c.go_on-stand.ensures in
    looking-next c.loop-stand.invariant c.next_piece-piece.ensures.0 c.if-piece-class.false to.0 to.1
