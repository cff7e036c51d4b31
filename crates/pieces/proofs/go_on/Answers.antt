-- `pieces::go_on` meets its contract.
use Rattle.pieces.proofs.Cursors.{past-later}
use Rattle.pieces.proofs.go_on.Goals as goal

pub advance-today-requires : goal.advance-today-requires
advance-today-requires c = let p = c.requires in (p.0, p.1, p.3, p.7, past-later p.5.today.past p.6, p.5.today.spans, p.8)

pub advance_whole-under-requires : goal.advance_whole-under-requires
advance_whole-under-requires c = let p = c.requires in (p.0, p.2, p.4, p.7, past-later p.5.under.past p.6, p.5.under.spans, p.9)
