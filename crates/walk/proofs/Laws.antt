-- The laws of the walk: all that a loop over the maximal blocks needs.
-- Assumes nothing.
pub use Rattle.walk.proofs.Walks.{Walks, walks-first, walks-goes, walks-next, walks-last}
