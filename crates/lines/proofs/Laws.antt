-- The laws of the lines that are printed: all that the crates above know of them.
-- Assumes nothing.
pub use Rattle.lines.proofs.Lengths.{window-most, refusal-most, found-most}
pub use Rattle.lines.proofs.Refused.{line-some, refused-most, silent}
