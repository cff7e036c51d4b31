-- The laws of using a map and a window: all that the crates above know of it.
-- Assumes nothing.
pub use Rattle.used.proofs.Use.{border-passed, border-refused, numbered-border, use-refused, use-view, use-parts, use-answerable, numbered-use}
pub use Rattle.used.proofs.Use.{use-capped, use-known, use-whole, use-same, use-sound, use-alike, use-gapless, without-use}
pub use Rattle.used.proofs.Used.{used-refused, used_over, used-passed, used-short, used-done, used-said, used-by-lengths, numbered-used, used-answerable}
pub use Rattle.used.proofs.Used.{used-told, used-roomy, used-maps, used-gapless}
pub use Rattle.used.proofs.Spent.{spent-is, spent-at, spent-past, spent-beyond, spent-again, spent-length}
pub use Rattle.used.proofs.Tiled.{tiled-next, tiled-cap, tiled-usable, tiled-known, used-tiled, used-within, tiled-gapless}
