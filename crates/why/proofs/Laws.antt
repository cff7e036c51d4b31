-- The laws of what is said of records and maximal blocks: all that the crates above know of it.
-- Assumes nothing.
pub use Rattle.why.proofs.Records.{record-alike, record-handed, record-outside, record-either}
pub use Rattle.why.proofs.Blocks.{block-alike, block-opened, block-skipped, block-either}
pub use Rattle.why.proofs.Tables.{why-is, index-passed, numbered-index, index-19, key-passed, numbered-key, key-22}
