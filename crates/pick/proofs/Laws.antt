-- The laws of picking: all that the crates above know of it.
-- Assumes nothing.
pub use Rattle.pick.proofs.Picking.{around-has, around-not, picks-one, picked_none, picked_next, picked-around, picked-inside, picked-run}
