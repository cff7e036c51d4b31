-- The laws of select: all that the crates above know of it.
-- Assumes nothing.
pub use Rattle.select.proofs.Choices.{around-is, Lying, lies, apart, some-around, none-around, lying, selected-whole}
pub use Rattle.select.proofs.Picked.{selected-met, block-selected}
pub use Rattle.select.proofs.Blockwise.{selection-flat}
pub use Rattle.select.proofs.Selection.{one-corner, selection-once, selection-has, selection-holds, selection-one, selection-capped, selection-few, selection-pixels}
pub use Rattle.select.proofs.Tables.{part-spent, keys-short, keys-done, select-is, select-within, select-refused, select-listed, select-gapless}
pub use Rattle.select.proofs.View.{selection-view}
