-- The laws of the rows of a month's table: all that the crates above know of them.
-- Assumes nothing.
pub use Rattle.rows.proofs.Rows.{cells-length, cells-next, behind-rows, zero-rows, grow-is}
pub use Rattle.rows.proofs.Over.{any-clear}
pub use Rattle.rows.proofs.Meaning.{with-sum, with-maps, row-none, row_next}
