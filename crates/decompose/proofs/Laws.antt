-- The laws of decomposing: all that the crates above know of it.
-- Assumes nothing.
pub use Rattle.decompose.proofs.Tables.{decompose-is, decompose-within}
