-- The laws of report: all that the crates above know of it.
-- Assumes nothing.
pub use Rattle.report.proofs.Tables.{report-is, report-refused, report-short, report-done, report-maps, report-gapless}
pub use Rattle.report.proofs.Told.{Counted, counted, uncounted}
