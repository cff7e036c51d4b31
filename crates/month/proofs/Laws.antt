-- The laws of a month: all that the crates above know of it.
-- Assumes nothing.
pub use Rattle.month.proofs.Clearing.{clear-is, empty-length}
pub use Rattle.month.proofs.Tables.{numbered-add, add-addable}
pub use Rattle.month.proofs.Adding.{map-length, map-totals, add_is, add-table}
pub use Rattle.month.proofs.Months.{month-none, month-next, month-over, month-length, month-m, month-maps, sane-none, next-m, next-window, next-maps, next_row, sane-next}
pub use Rattle.month.proofs.Outcomes.{Outcome, unsound, other, full, narrow, taken, outcome}
