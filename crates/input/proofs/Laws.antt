-- The laws of the input: within which bounds the length of a file is, and when nothing is printed for bytes left over.
-- Assumes nothing.
pub use Rattle.input.proofs.Sizes.{announced-bounds, announced-same}
pub use Rattle.input.proofs.Windows.{left-silent, left-most}
