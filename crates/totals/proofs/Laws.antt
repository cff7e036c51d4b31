-- The laws of totals: all that the crates above know of them.
-- Assumes nothing.
pub use Rattle.totals.proofs.Totals.{totals-length, totals-at, total-most, totals-sum, total-shared, total-parted, openings-gathered}
pub use Rattle.totals.proofs.Areas.{area-around}
pub use Rattle.totals.proofs.View.{total-view}
