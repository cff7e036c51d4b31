-- The laws of opening: all that the crates above know of it.
-- Assumes nothing.
pub use Rattle.open.proofs.Opening.{open_is, open-within, open-gapless}
pub use Rattle.open.proofs.Answered.{answered}
pub use Rattle.open.proofs.Room.{openings-records, capped-fit, openings-fit}
