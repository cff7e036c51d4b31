-- The laws of keys, for every m: all that the crates above know of keys. Most are read off how two blocks stand to one another.
-- Assumes nothing.
pub use Rattle.key.proofs.Named.{one_block, one_key, block-named, pixel-named, whole-named, block-lies, blocks-stand, nested}
pub use Rattle.key.proofs.Named.{ordered, starts-order, key-order, holds-key, holds-own, same_block, holds_same, covers, span-pixel}
pub use Rattle.key.proofs.Squares.{no_names, square-names, span-square, square-inside}
pub use Rattle.key.proofs.Standing.{Lies, Covers, Stand, within, around, after, before, PixelAt}
pub use Rattle.key.proofs.Bits.{spread-entry, spread-twice}
pub use Rattle.key.proofs.Powers.{pow-least, pow-most, power, four, size-le}
pub use Rattle.key.proofs.Levels.{digits-one, key-digits, one-level, whole-key, only-key}
pub use Rattle.key.proofs.Pixels.{place-lt, corner-place, place-one, place-onto}
pub use Rattle.key.proofs.Zeros.{alignment-most, alignment-zero, alignment-divides, leading-most, log-of}
pub use Rattle.key.proofs.Ends.{Starts, first-pixel, aligned-start, block-starting, end-key, sub-key}
pub use Rattle.key.proofs.Places.{span_key_lem, span-named}
pub use Rattle.key.proofs.Around.{key-zeros, key-least, reaches-least, reaches-before, reaches-around}
pub use Rattle.key.proofs.Along.{fits-key, fits-block, fits-other}
pub use Rattle.key.proofs.Joined.{form-cut, form-up}
pub use Rattle.key.proofs.Upward.{ends-exponent}
pub use Rattle.key.proofs.Strips.{strips-one, strips-exponent}
pub use Rattle.key.proofs.Spans.{same-span, same-exponent, same-start}
