-- The law of replies: where there is room for the longest one, all of it is put.
-- Assumes nothing.
pub use Rattle.reply.proofs.Steps.{next-put}
