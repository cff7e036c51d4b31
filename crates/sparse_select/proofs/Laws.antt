-- The laws of select on maps with gaps, and of keys listed block by block in any way: all that the crates above know of it. `Spaced` is known of the map, and that it has as many classes as
-- records.
-- Assumes nothing.
pub use Rattle.sparse_select.proofs.Made.{Made, made_none, made-skip, made-append, made-stretch, made-rising}
pub use Rattle.sparse_select.proofs.Laid.{Blockwise, laid_one, laid-once, laid-inside, laid-small, laid-pixels, laid-most, laid-fits}
pub use Rattle.sparse_select.proofs.Walking.{Walking, walking-first, walking-last, walking-goes, walking-room, walking-next}
pub use Rattle.sparse_select.proofs.Block.{sparse-rising}
pub use Rattle.sparse_select.proofs.Window.{sparse-blockwise, sparse-flat, sparse-most}
pub use Rattle.sparse_select.proofs.Plain.{sparse-records, sparse-other, sparse-plain, sparse-whole}
pub use Rattle.sparse_select.proofs.Fewest.{sparse-fewest, sparse-gaps, sparse-least}
pub use Rattle.sparse_select.proofs.Cases.{block-blank}
