-- The laws of today's map over a baseline: all that the crates above know of it.
-- Assumes nothing.
pub use Rattle.overlay.proofs.Joins.{class-is}
pub use Rattle.overlay.proofs.Blocks.{class-blockwise, class-makes, class-least, class-rising, selection-flat, class-most}
pub use Rattle.overlay.proofs.Pairs.{Told, today, baseline, other_m, sound, pairing-told, pairing-passed, today-refused, base-refused, m-refused, behind-refused, behind-passed}
pub use Rattle.overlay.proofs.Pairs.{exist-over-is, report-over-is, select-over-is}
pub use Rattle.overlay.proofs.Views.{Seen, unpaired, blockless, of_today, of_baseline, view-seen, view-over-is, part-are, part-today, part-baseline, part-refused}
