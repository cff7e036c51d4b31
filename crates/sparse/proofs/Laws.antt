-- The laws of maps with gaps and of a map over a baseline: all that the crates above know of them.
-- Assumes nothing.
pub use Rattle.sparse.proofs.Over.{pair-tiled, pair-known}
