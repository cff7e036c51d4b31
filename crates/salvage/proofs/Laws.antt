-- The laws of salvage: all that the crates above know of it.
-- Assumes nothing.
pub use Rattle.salvage.proofs.Table.{numbered-salvage, salvage-passed, salvage-is, salvaged-is, entries-are}
pub use Rattle.salvage.proofs.Making.{firsts-length, seconds-length, cells-none, cells-length, block-brings}
pub use Rattle.salvage.proofs.Mends.{mends-are, mends-none}
pub use Rattle.salvage.proofs.Result.{salvaged-follows, salvaged-same, log-empty}
pub use Rattle.salvage.proofs.Each.{all-numbers, dropped-malformed, entries-most}
pub use Rattle.salvage.proofs.Early.{dropped-early}
pub use Rattle.salvage.proofs.Gaps.{fills-least, kept-spaced, filled-makes, filled-least}
pub use Rattle.salvage.proofs.Painted.{kept-class, blank-class}
