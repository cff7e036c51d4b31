-- The laws of what comes before the first window: nothing is printed exactly where nothing is refused, and then the map is sound.
-- Assumes nothing.
pub use Rattle.beginning.proofs.Silent.{map-silent, start-silent}
pub use Rattle.beginning.proofs.Starts.{begun-sound}
