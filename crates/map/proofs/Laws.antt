-- The laws of maps: all that the crates above know of them. Of a map that may have gaps `Spaced` is known, of a whole one `Follow`.
-- Assumes nothing.
pub use Rattle.map.proofs.Tiles.{Record, SomeRecord, Holder, Free, Tiling, pixel_tile, Overlap, Meets}
pub use Rattle.map.proofs.Tables.{check-is, numbered-map, without-map, map-over, spaced-records, sound-map}
pub use Rattle.map.proofs.Gapless.{gapless-same, sound-gapless}
pub use Rattle.map.proofs.Order.{spaced, recorded-spaced, whole-sparse, record-at, apart, holder, find, keys-apart, keys-rise, one-holder}
pub use Rattle.map.proofs.Holding.{exponent-record, tile-record, record-tile, record_of_lem, record-none, exponent-of, tile-of, exponent-none}
pub use Rattle.map.proofs.Holding.{tile-none, record-holder, tile-holder, tiles, pixel-holder, pixel-below, tile-whole, tiling, record-square}
pub use Rattle.map.proofs.Unheld.{is_free_lem, unfree, free-none, free-held, free-past, free-ahead}
pub use Rattle.map.proofs.Classes.{class-held, class-free, over-whole}
pub use Rattle.map.proofs.Tests.{malformed-is, malformed-not, exponent-is, start_is, end_is, holds-is, overlap-is, within-is}
pub use Rattle.map.proofs.Found.{found-around, block-records}
pub use Rattle.map.proofs.Reach.{reach-is, Alone, reach-least, reach-within, reach-beyond, some-records}
pub use Rattle.map.proofs.Inner.{Inner, inner_first, inner-key, inner-names, inner-next}
