-- The laws of exist: all that the crates above know of it.
-- Assumes nothing.
pub use Rattle.exist.proofs.Found.{exists-means, exists-hands}
pub use Rattle.exist.proofs.Tables.{presence-is, existing-is, exist-refused, exist-done, exist-leaves, exist-untouched, exist-by-lengths, exist-maps, exist-gapless}
pub use Rattle.exist.proofs.View.{exists-view, presence-view}
