-- The laws of text: all that the crates above know of it.
-- Assumes nothing.
pub use Rattle.text.proofs.Digits.{line-length, line-most, put-empty, put-there, put-within, put-most}
pub use Rattle.text.proofs.Telling.{Telling, telling-first, telling-begin, telling-length, telling-room, telling-lent, telling-part, telling-last}
