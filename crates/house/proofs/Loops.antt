-- What the functions of `house_read` and `house_write` go by, test by test.
-- Assumes nothing.
pub use Rattle.house.proofs.Tables.{layout-total, layout-refused, layout-length, layout-keys, layout-classes, laid, read_short}
pub use Rattle.house.proofs.Tables.{read-refused, read-no-room, read_done, write-refused, write-no-room, write_done}
pub use Rattle.house.proofs.Parts.{parts-put, keys-got}
