-- The laws of pieces: all that the crates above know of them.
-- Assumes nothing.
pub use Rattle.pieces.proofs.Cursors.{at-behind, at_room}
pub use Rattle.pieces.proofs.Pieces.{over-held, over-free}
pub use Rattle.pieces.proofs.Tallies.{places-none, places-append, places-most, places-alike, places-other}
pub use Rattle.pieces.proofs.Sights.{seen_none, seen-append, seen_alike}
pub use Rattle.pieces.proofs.Sparse.{pair-sound, pair-today, one-record, one-pair, over-one, over_none, over-hidden, one-exists, one-totals, exists-whole, totals-whole}
