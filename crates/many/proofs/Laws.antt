-- The laws of many windows: all that the crates above know of them.
-- Assumes nothing.
pub use Rattle.many.proofs.Windows.{windows-length, windows-append}
pub use Rattle.many.proofs.Lines.{line-is, line_refused, lines-append, lines-length, lines_at, line_view}
pub use Rattle.many.proofs.Border.{widest-append, widest-wider, left-append, left-length, left-cell}
pub use Rattle.many.proofs.Tables.{many-askable, many-25, numbered-many, many_is}
