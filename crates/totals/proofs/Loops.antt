-- What the functions of `gather` and `sums` go by: the state of their loops, and the parts of records.
-- Assumes nothing.
pub use Rattle.totals.proofs.Areas.{shared-is, clipped-is, clipped-most}
pub use Rattle.totals.proofs.Parts.{hands-alone, hands-small, hands-single, hands-fill, fills-small, fills_first, fills-key, fills-within, fills-begins, fills-area, fills-next}
pub use Rattle.totals.proofs.Gathers.{adding-first, adding-most, adding-next, adding-last, Adding}
pub use Rattle.totals.proofs.Adds.{Totalling, totalling-first, totalling-hands, totalling-once, totalling-next, totalling-last}
