-- The law of pieces: a text of lines goes out in whole lines.
-- Assumes nothing.
pub use Rattle.streams.proofs.Pieces.{piece-ends-line}
