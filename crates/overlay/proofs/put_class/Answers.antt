-- `overlay::put_class` meets its contract, by the invariant beside this.
use native.Mathlib.Omega.{arith}
use Rattle.answers.proofs.Laws.{listed_same}
use Rattle.overlay.proofs.Joins.{joining-first, joining-same, joining-room, joining-other, joining-rest, joining-last}
use Rattle.overlay.proofs.put_class.Goals as goal

pub loop-stand-init : goal.loop-stand-init
loop-stand-init c = let p = c.requires.paired in joining-first _ p.2 p.1

pub next_piece-piece-requires : goal.next_piece-piece-requires
next_piece-piece-requires c = let p = c.requires.paired in (p.0, c.loop-stand.invariant.stands, c.loop-stand-test.true, p.3)

-- behind the next piece
pub go_on-stand-requires : goal.go_on-stand-requires
go_on-stand-requires c =
    let p = c.requires.paired in
    let e = c.next_piece-piece.ensures in
    (p.0.small, p.0.few, p.0.under_few, p.0.today, p.0.under, c.loop-stand.invariant.stands, omega (arith, e.0.more), omega (arith, e.0.most, p.3), e.1, e.2)

-- where the piece is of another class
pub put_between-k-requires : goal.put_between-k-requires
put_between-k-requires c =
    let p = c.requires in
    let room = joining-room c.loop-stand.invariant c.next_piece-piece.ensures.0 c.if-piece-class.true in
    (p.paired.0.small, omega (arith, p.paired.3, c.loop-stand.invariant.high), omega (arith, p.end_bound, room))

pub loop-stand-smaller-then-piece-class : goal.loop-stand-smaller-then-piece-class
loop-stand-smaller-then-piece-class c =
    omega (arith, c.next_piece-piece.ensures.0.more, c.next_piece-piece.ensures.0.most, c.go_on-stand.ensures.0)

pub loop-stand-preserved-then-piece-class : goal.loop-stand-preserved-then-piece-class
loop-stand-preserved-then-piece-class c =
    joining-other c.loop-stand.invariant c.next_piece-piece.ensures.0 c.if-piece-class.true c.go_on-stand.ensures.0 c.go_on-stand.ensures.1 c.put_between-k.ensures

pub loop-stand-smaller : goal.loop-stand-smaller
loop-stand-smaller c =
    omega (arith, c.next_piece-piece.ensures.0.more, c.next_piece-piece.ensures.0.most, c.go_on-stand.ensures.0)

pub loop-stand-preserved : goal.loop-stand-preserved
loop-stand-preserved c =
    joining-same c.loop-stand.invariant c.next_piece-piece.ensures.0 c.go_on-stand.ensures.0 c.go_on-stand.ensures.1 c.if-piece-class.false

-- where no place is left
pub put_between-requires : goal.put_between-requires
put_between-requires c =
    let p = c.requires in
    (p.paired.0.small, p.paired.3, omega (arith, p.end_bound, joining-rest c.loop-stand.invariant (omega (arith, c.loop-stand-test.false))))

pub shape_of-out : goal.shape_of-out
shape_of-out c =
    listed_same (joining-last c.loop-stand.invariant (omega (arith, c.loop-stand-test.false)) c.put_between.ensures)

pub returns : goal.returns
returns c =
    joining-last c.loop-stand.invariant (omega (arith, c.loop-stand-test.false)) c.put_between.ensures
